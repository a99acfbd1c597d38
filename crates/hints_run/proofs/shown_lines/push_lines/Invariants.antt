use Rattle.std.proofs.Common.{◌≡◌, ◌++◌, take}
use Rattle.std.specs.List.{flat_map}
use Rattle.hints_run.specs.ShownLines.{shown_line}
use Rattle.hints_run.proofs.shown_lines.push_lines.Given as goal

-- the lines so far
abbrev pub invariant-lines : goal.invariant-lines
invariant-lines l =
    l.shown.items ≡ l.initial.shown.items ++ flat_map shown_line (take l.line-index l.lines)
