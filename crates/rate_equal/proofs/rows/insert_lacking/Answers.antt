use Rattle.rate_expr.proofs.MaskSets.{has-below}
use Rattle.rate_equal.proofs.Filling.{rows_lowest}
use Rattle.rate_equal.proofs.rows.insert_lacking.Goals as goal

pub insert_row_lacking-requires-clause-position : goal.insert_row_lacking-requires-clause-position
insert_row_lacking-requires-clause-position c =
    has-below c.args.mask 128 c.lowest.result c.ranges.mask.fits
    (c.positions.invariant.left c.lowest.result c.lowest.ensures.has)

pub positions-preserved : goal.positions-preserved
positions-preserved c = rows_lowest _ _ _ _ _ _ _ _ c.positions.invariant c.lowest.ensures
    c.without_lowest-rest.ensures.exact c.insert_row_lacking.ensures.kept
    c.insert_row_lacking.ensures.lacking
