use Rattle.query_model.specs.Rates.{rate_of}
use Rattle.type_checker.proofs.SamePaths.{many_here}
use Rattle.type_checker.proofs.Answered.{answered_false, answered_true}
use Rattle.type_checker.proofs.word_rules.rates_rule.Goals as goal

pub returns-in-Ok-true : goal.returns-in-Ok-true
returns-in-Ok-true c = λ standing f g value first second. (
  λ many. c.in-Ok-true.ensures.few (many_here _ (rate_of f) (rate_of g) _ _ first.sets
      second.sets many),
  answered_true _ _ _ c.in-Ok-true.field-0-test
      (c.in-Ok-true.ensures.answer (rate_of f) (rate_of g) first.spells second.spells),
)

pub returns-in-Ok-false : goal.returns-in-Ok-false
returns-in-Ok-false c = λ standing f g value first second. (
  λ many. c.in-Ok-false.ensures.few (many_here _ (rate_of f) (rate_of g) _ _ first.sets
      second.sets many),
  answered_false _ _ _ c.in-Ok-false.field-0-test
      (c.in-Ok-false.ensures.answer (rate_of f) (rate_of g) first.spells second.spells),
)
