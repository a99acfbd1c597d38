use Rattle.explanation.proofs.Counting.{counted_more}
use Rattle.explanation.proofs.positions.counted_lets.Goals as goal

pub lets-preserved : goal.lets-preserved
lets-preserved c =
    counted_more c.lets.counted c.insert.new.self c.args.lets.now c.lets.one-index c.one-item.result
    c.one-item.is c.lets-test.true
    c.as_slice.result c.as_slice.ensures c.positions_in-count.result
    (rw c.deref.ensures at (c.positions_in-count.ensures _ c.lets.invariant))
    c.lets.invariant c.in_ok-insert.ensures.updates
