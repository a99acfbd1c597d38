-- The levels are counted without making the expression.
use Rattle.std.proofs.Common.{◌≡◌, ◌∙◌, ◌&&◌, true, ap, sym}
use Rattle.std.specs.Prelude.{◌||◌, nat_le}
use Rattle.expressions.specs.Expressions.{plain_of}
use Rattle.query_rewrite.specs.Counting.{is_read_once, reading_of}
use Rattle.query_rewrite.specs.Filling.{filled}
use Rattle.query_rewrite.specs.Levels.{levels_of, max_levels}
use Rattle.query_rewrite.specs.Steps.{is_left_value}
use Rattle.query_rewrite.proofs.FilledLevels.{levels_tested}
use Rattle.query_rewrite.proofs.Tests.{first_true, second_true}
use Rattle.query_rewrite.proofs.merging.can_merge.Goals as goal
use Rattle.query_rewrite.proofs.merging.can_merge.Goals.{then-is_left_value, else-is_left_value}

pub returns-then-is_once_at_most : goal.returns-then-is_once_at_most
returns-then-is_once_at_most c =
    let e = plain_of c.args.inner.now in
    let d = plain_of c.args.outer.now in
    let first : (is_left_value e || is_read_once (reading_of d)) ≡ true =
    elim c.if-is_left_value.branch [
      | then-is_left_value w ↦
          let left : is_left_value e ≡ true = cc in
          first_true (is_left_value e) (is_read_once (reading_of d)) left
      | else-is_left_value w ↦
          let once : is_read_once (reading_of d) ≡ true = cc in
          second_true (is_left_value e) (is_read_once (reading_of d)) once
    ] in
    levels_tested c.levels_of-then-is_once_at_most.result c.levels_of.result e d
    c.levels_of.ensures c.levels_of-then-is_once_at_most.ensures
    ∙ sym (ap (λ b. b && nat_le (levels_of (filled e d)) max_levels) first)
