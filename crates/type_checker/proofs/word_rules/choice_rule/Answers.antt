use Rattle.query_model.specs.Rates.{rate_of}
use Rattle.type_checker.proofs.Answered.{answered_false, answered_true}
use Rattle.type_checker.proofs.word_rules.choice_rule.Goals as goal

pub returns-then-branch : goal.returns-then-branch
returns-then-branch c = λ standing f g first second.
    answered_true _ _ _ c.if-branch.true
    (c.in_ok-disjoint.ensures (rate_of f) (rate_of g) first.spells second.spells)

pub returns-else-branch : goal.returns-else-branch
returns-else-branch c = λ standing f g first second.
    answered_false _ _ _ c.if-branch.false
    (c.in_ok-disjoint.ensures (rate_of f) (rate_of g) first.spells second.spells)
