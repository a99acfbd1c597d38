use Rattle.std.proofs.Common.{◌≡◌, ◌++◌, replicate}
use Rattle.view_texts.proofs.decimal.push_zeros.Given as goal

-- the zeros so far
abbrev pub invariant-zeros : goal.invariant-zeros
invariant-zeros l = l.text.items ≡ l.initial.text.items ++ replicate l.counter 48
