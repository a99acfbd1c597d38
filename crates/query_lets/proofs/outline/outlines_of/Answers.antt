use Rattle.query_lets.proofs.Bound.{outlines_more}
use Rattle.query_lets.proofs.outline.outlines_of.Goals as goal

pub lets-preserved : goal.lets-preserved
lets-preserved c =
    outlines_more c.lets.outlines c.insert.new.self c.args.lets.now c.lets.one-index
    c.one-item.result c.one-item.is c.lets-test.true
    c.as_slice.result c.as_slice.ensures c.query_outline-outline.result
    (rw c.deref.ensures at (c.query_outline-outline.ensures _ c.lets.invariant))
    c.lets.invariant c.in_ok-insert.ensures.updates
