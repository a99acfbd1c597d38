use Rattle.std.proofs.Common.{arith}
use Rattle.ambiguity_example.proofs.MetItems.{some_cell}
use Rattle.ambiguity_example.proofs.node_items.shared_item.Goals as goal

pub unreachable-requires : goal.unreachable-requires
unreachable-requires c =
    let count = rw c.cells.ensures at c.count-cell-end.ensures.count in
    some_cell c.args.first.now c.args.second.now c.requires.cells c.args.left c.args.right
    c.requires.meet c.tried.cell (omega (arith, count, c.tried-test.false)) c.tried.invariant
