use Rattle.std.proofs.Common.{ap}
use Rattle.rate_expr.specs.Shared.{listed}
use Rattle.rate_expr.proofs.JoinedMade.{one_made}
use Rattle.rate_expr.proofs.positions.Positions.one.Goals as goal

pub returns : goal.returns
returns c =
    one_made _ _ _ _ _ c.new-follow.ensures.items c.in_ok-push.ensures.items
    (ap listed c.new-preds.ensures) c.in_ok-add.ensures.listed
