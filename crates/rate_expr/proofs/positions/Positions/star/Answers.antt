use Rattle.rate_expr.proofs.JoinedMade.{star_made}
use Rattle.rate_expr.proofs.positions.Positions.star.Goals as goal

pub returns : goal.returns
returns c =
    star_made _ _ _ _ _ c.ends-ends.ensures.sets c.ends-ends.ensures.ends c.with_links.ensures
    c.star.ensures c.with_ends.ensures
