use Rattle.std.proofs.Common.{◌≡◌, ◌++◌, replicate}
use Rattle.view_lines.proofs.widths.push_spaces.Given as goal

-- the spaces so far
abbrev pub invariant-spaces : goal.invariant-spaces
invariant-spaces l = l.text.items ≡ l.initial.text.items ++ replicate l.counter 32
