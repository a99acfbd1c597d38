use Rattle.rate_expr.proofs.Sharing.{listed_more}
use Rattle.rate_expr.proofs.shared_preds.SharedPreds.append.Goals as goal

pub loop-position-preserved : goal.loop-position-preserved
loop-position-preserved c = (
  c.in_ok-add.ensures.shared,
  listed_more _ _ _ _ _ _ c.loop-position.invariant.1 c.get.ensures c.in_ok-add.ensures.listed,
)
