use Rattle.ambiguity_check.proofs.SplitWalks.{one_split_says}
use Rattle.ambiguity_check.proofs.splits.one_split.Goals as goal

pub returns : goal.returns
returns c = λ r s of_r of_s.
    let columns = c.args.first.now.cells.layout.columns in
    let first = c.args.first.now.sets in
    let second = c.args.second.now.sets in
    let reached = rw (c.in_ok-splits.ensures.first, c.in_ok-splits.ensures.second) at
    c.in_ok-marks.ensures in
    let found = rw (c.in_ok-splits.ensures.first, c.in_ok-splits.ensures.second) at
    c.end_in.ensures in
    one_split_says columns first second _ _ _ c.in_ok-splits.ensures.rows r s of_r of_s _ _ reached
    found
