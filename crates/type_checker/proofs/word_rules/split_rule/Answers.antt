use Rattle.query_model.specs.Rates.{rate_of}
use Rattle.type_checker.proofs.Answered.{answered_true}
use Rattle.type_checker.proofs.word_rules.split_rule.Goals as goal

pub returns-then-branch : goal.returns-then-branch
returns-then-branch c = λ standing f g value first second.
    answered_true _ _ _ c.if-branch.true
    (c.in_ok-one_split.ensures (rate_of f) (rate_of g) first.spells second.spells)
