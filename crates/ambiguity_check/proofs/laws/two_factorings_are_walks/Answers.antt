use Rattle.ambiguity_check.proofs.FactorWalks.{walk_factors, factors_walks}
use Rattle.ambiguity_check.proofs.laws.two_factorings_are_walks.Goals as goal

pub returns-clause-sound : goal.returns-clause-sound
returns-clause-sound c = λ columns sets rows are r of_r items.
    walk_factors columns sets rows are r of_r items

pub returns-clause-whole : goal.returns-clause-whole
returns-clause-whole c = λ columns sets rows are r of_r not_empty items.
    factors_walks columns sets rows are r of_r not_empty items
