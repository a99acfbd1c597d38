use Rattle.std.proofs.Common.{ap, ◌∙◌}
use Rattle.rate_expr.specs.Sets.{Sets}
use Rattle.ambiguity_example.proofs.Deciding.{not_both}
use Rattle.ambiguity_example.proofs.shared_words.shared_word.Goals as goal
use Rattle.ambiguity_example.proofs.shared_words.shared_word.Goals.{else-nullable-via-then-nullable+else-nullable-2}
use Rattle.ambiguity_example.proofs.shared_words.shared_word.Goals.{else-nullable-via-else-nullable}

pub shared_nonempty_word-requires-clause-nonempty :
    goal.shared_nonempty_word-requires-clause-nonempty
shared_nonempty_word-requires-clause-nonempty c = λ left right. elim c.else-nullable.branch [
  | else-nullable-via-then-nullable+else-nullable-2 w ↦ not_both w.nullable-then-nullable.result
      (w.nullable-then-nullable.ensures
      ∙ ap (λ (sets : Sets). sets.nullable) c.positions-right.ensures ∙ right) w.if-nullable-2.false
  | else-nullable-via-else-nullable w ↦ not_both c.nullable.result
      (c.nullable.ensures ∙ ap (λ (sets : Sets). sets.nullable) c.positions-left.ensures ∙ left)
      w.if-nullable.false
]
