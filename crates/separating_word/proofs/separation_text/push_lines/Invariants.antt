use Rattle.std.proofs.Common.{◌≡◌, ◌++◌, take}
use Rattle.std.specs.List.{flat_map}
use Rattle.separating_word.specs.SeparationText.{shown_line}
use Rattle.separating_word.proofs.separation_text.push_lines.Given as goal

-- the lines so far
abbrev pub invariant-lines : goal.invariant-lines
invariant-lines l =
    l.shown.items ≡ l.initial.shown.items ++ flat_map shown_line (take l.line-index l.lines)
