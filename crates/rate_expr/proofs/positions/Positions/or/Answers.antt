use Rattle.rate_expr.proofs.JoinedMade.{ready, choice_bounds, choice_made}
use Rattle.rate_expr.proofs.positions.Positions.or.Goals as goal

pub with_ends-requires-clause-first : goal.with_ends-requires-clause-first
with_ends-requires-clause-first c =
    let known = ready _ _ _ _ _ _ _ c.ends-one.ensures.sets c.ends.ensures.sets c.requires
    c.ends-one.ensures.ends c.ends.ensures.ends c.count.ensures.count c.moved-another.ensures
    c.in_ok-beside.ensures in
    (choice_bounds _ _ _ _ _ _ known c.or.ensures).0

pub with_ends-requires-clause-last : goal.with_ends-requires-clause-last
with_ends-requires-clause-last c =
    let known = ready _ _ _ _ _ _ _ c.ends-one.ensures.sets c.ends.ensures.sets c.requires
    c.ends-one.ensures.ends c.ends.ensures.ends c.count.ensures.count c.moved-another.ensures
    c.in_ok-beside.ensures in
    (choice_bounds _ _ _ _ _ _ known c.or.ensures).1

pub returns : goal.returns
returns c =
    let known = ready _ _ _ _ _ _ _ c.ends-one.ensures.sets c.ends.ensures.sets c.requires
    c.ends-one.ensures.ends c.ends.ensures.ends c.count.ensures.count c.moved-another.ensures
    c.in_ok-beside.ensures in
    choice_made _ _ _ _ _ _ _ known c.or.ensures c.with_ends.ensures
