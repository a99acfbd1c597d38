use Rattle.query_model.specs.Rates.{rate_of}
use Rattle.type_checker.proofs.Answered.{answered_true}
use Rattle.type_checker.proofs.word_rules.iter_rule.Goals as goal

pub returns-then-branch : goal.returns-then-branch
returns-then-branch c = λ standing f number step inner.
    answered_true _ _ _ c.if-branch.true (c.in_ok-one_factoring.ensures (rate_of f) inner.spells)
