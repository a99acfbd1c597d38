use Rattle.std.proofs.Common.{◌≡◌, ◌++◌, replicate}
use Rattle.item_drill.proofs.field.push_digits.Given as goal

-- the zeros so far
abbrev pub invariant-zeros : goal.invariant-zeros
invariant-zeros l = l.text.items ≡ l.initial.text.items ++ replicate l.counter 48
