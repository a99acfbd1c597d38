use Rattle.rate_expr.specs.Paths.{Follows}
use Rattle.ambiguity_check.proofs.Gathering.{gathered_none, gathered_next}
use Rattle.ambiguity_check.proofs.readings.all_after.Goals as goal

pub positions-init : goal.positions-init
positions-init c = gathered_none (Follows c.args.positions.now) c.args.mask

pub positions-preserved : goal.positions-preserved
positions-preserved c = gathered_next (Follows c.args.positions.now) c.args.mask _ _ _ _ _
    c.positions.invariant c.lowest.ensures
    c.without_lowest-rest.ensures.exact c.after-found.ensures
