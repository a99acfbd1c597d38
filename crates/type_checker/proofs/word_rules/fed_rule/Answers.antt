use Rattle.rate_expr.proofs.SetsOf.{sets_spell}
use Rattle.type_checker.proofs.SamePaths.{many_states_here}
use Rattle.type_checker.proofs.Answered.{answered_false, answered_true}
use Rattle.type_checker.proofs.word_rules.fed_rule.Goals as goal

pub returns-in-Ok-true : goal.returns-in-Ok-true
returns-in-Ok-true c = λ r are. (
  λ many. c.in-Ok-true.ensures.few (many_states_here _ r _ are many),
  answered_true _ _ _ c.in-Ok-true.field-0-test
      (c.in-Ok-true.ensures.answer r (sets_spell _ r are)),
)

pub returns-in-Ok-false : goal.returns-in-Ok-false
returns-in-Ok-false c = λ r are. (
  λ many. c.in-Ok-false.ensures.few (many_states_here _ r _ are many),
  answered_false _ _ _ c.in-Ok-false.field-0-test
      (c.in-Ok-false.ensures.answer r (sets_spell _ r are)),
)
