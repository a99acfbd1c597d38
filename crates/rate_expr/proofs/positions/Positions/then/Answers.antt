use Rattle.rate_expr.proofs.JoinedMade.{ready, after_bounds, sequence_bounds, sequence_made}
use Rattle.rate_expr.proofs.positions.Positions.then.Goals as goal

pub with_links-linked-requires : goal.with_links-linked-requires
with_links-linked-requires c =
    let known = ready _ _ _ _ _ _ _ c.ends-before.ensures.sets c.ends.ensures.sets c.requires
    c.ends-before.ensures.ends c.ends.ensures.ends c.count.ensures.count c.moved-after.ensures
    c.in_ok-beside.ensures in
    (after_bounds _ _ _ _ _ known).0

pub with_ends-requires-clause-first : goal.with_ends-requires-clause-first
with_ends-requires-clause-first c =
    let known = ready _ _ _ _ _ _ _ c.ends-before.ensures.sets c.ends.ensures.sets c.requires
    c.ends-before.ensures.ends c.ends.ensures.ends c.count.ensures.count c.moved-after.ensures
    c.in_ok-beside.ensures in
    (sequence_bounds _ _ _ _ _ _ _ known c.with_links-linked.ensures c.then.ensures).0

pub with_ends-requires-clause-last : goal.with_ends-requires-clause-last
with_ends-requires-clause-last c =
    let known = ready _ _ _ _ _ _ _ c.ends-before.ensures.sets c.ends.ensures.sets c.requires
    c.ends-before.ensures.ends c.ends.ensures.ends c.count.ensures.count c.moved-after.ensures
    c.in_ok-beside.ensures in
    (sequence_bounds _ _ _ _ _ _ _ known c.with_links-linked.ensures c.then.ensures).1

pub returns : goal.returns
returns c =
    let known = ready _ _ _ _ _ _ _ c.ends-before.ensures.sets c.ends.ensures.sets c.requires
    c.ends-before.ensures.ends c.ends.ensures.ends c.count.ensures.count c.moved-after.ensures
    c.in_ok-beside.ensures in
    sequence_made _ _ _ _ _ _ _ _ known c.with_links-linked.ensures
    c.then.ensures c.with_ends.ensures
