use Rattle.std.proofs.Common.{◌≡◌, ◌++◌, replicate}
use Rattle.item_lines.proofs.number_text.push_digits.Given as goal

-- the zeros so far
abbrev pub invariant-zeros : goal.invariant-zeros
invariant-zeros l = l.line.items ≡ l.initial.line.items ++ replicate l.counter 48
