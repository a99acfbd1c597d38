use Rattle.std.proofs.Common.{arith, rules}
use Rattle.rate_equal.proofs.Added.{added_one}
use Rattle.rate_equal.proofs.addition.add.Goals as goal

pub returns-clause-added : goal.returns-clause-added
returns-clause-added c = added_one _ _ _ _ _ _ c.in_ok-place.place c.in_ok-place.ensures.unique
    c.in_ok-place.ensures.keys (λ x y is. search rules) (omega (arith, c.len.ensures.len))
    c.in_ok-place.ensures.stored c.insert.ensures
