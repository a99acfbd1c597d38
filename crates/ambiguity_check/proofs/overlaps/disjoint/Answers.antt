use Rattle.ambiguity_check.proofs.OverlapWalks.{disjoint_says}
use Rattle.ambiguity_check.proofs.overlaps.disjoint.Goals as goal
use Rattle.ambiguity_check.proofs.overlaps.disjoint.Goals.{else-nullable-via-then-nullable+else-nullable-2}
use Rattle.ambiguity_check.proofs.overlaps.disjoint.Goals.{else-nullable-via-else-nullable}

pub returns : goal.returns
returns c = λ r s of_r of_s.
    let reached = rw (c.in_ok-pairs.ensures.first, c.in_ok-pairs.ensures.second) at
    c.in_ok-marks.ensures in
    let found = rw (
      c.last.ensures,
      c.last-2.ensures,
      c.positions-left.ensures,
      c.positions-right.ensures,
    ) at c.has_some.ensures in
    disjoint_says c.args.first.now.cells.layout.columns c.args.first.now.sets
    c.args.second.now.sets _ c.in_ok-pairs.ensures.rows
    r s of_r of_s _ _ (λ left right. elim c.else-nullable.branch [
      | else-nullable-via-then-nullable+else-nullable-2 w ↦ cc
      | else-nullable-via-else-nullable w ↦ cc
    ]) reached found
