use Rattle.std.proofs.Common.{rules}
use Rattle.rate_expr.proofs.MaskSets.{has-below}
use Rattle.ambiguity_check.proofs.Finding.{found_row}
use Rattle.ambiguity_check.proofs.Moving.{moved_next, fresh_row}
use Rattle.ambiguity_check.proofs.level.mark_move.Goals as goal

pub add-requires : goal.add-requires
add-requires g c = has-below c.args.step.left 128 _ (search rules)
    (c.lefts.invariant.kept _ c.lowest-left.ensures.has)

pub add-requires-in-lefts : goal.add-requires-in-lefts
add-requires-in-lefts g c = has-below c.args.step.left 128 _ (search rules)
    (c.lefts.invariant.kept _ c.lowest-left.ensures.has)

pub lefts-preserved : goal.lefts-preserved
lefts-preserved g c =
    moved_next c.args.step (g.G.Graph.meet c.args.graph.now) _ _ _ _ _ _ _ _ c.meets.type_inv
    c.row.type_inv c.row.ensures c.meets.ensures _ _ _ c.lowest-left.ensures
    c.without_lowest-rest.ensures.exact c.lefts.invariant
    (found_row _ _ _ _ _ _ _ (fresh_row c.args.step (g.G.Graph.meet c.args.graph.now)
    c.args.seen.now c.args.next.now c.lefts.rest _ _ _ _ c.lefts.next
    c.meets.type_inv c.row.type_inv c.row.ensures c.meets.ensures) c.add.ensures
    c.add-in-lefts.ensures)
