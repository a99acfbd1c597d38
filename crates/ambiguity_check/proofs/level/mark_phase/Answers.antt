use Rattle.std.proofs.Common.{arith, rules}
use Rattle.ambiguity_check.proofs.Phases.{rows_all, rows_skip, rows_next}
use Rattle.ambiguity_check.proofs.level.mark_phase.Goals as goal
use Rattle.ambiguity_check.proofs.level.mark_phase.Goals.{then-rights-ne0, else-rights-ne0}

pub lefts-preserved : goal.lefts-preserved
lefts-preserved g c = elim c.if-rights-ne0.branch [
  | then-rights-ne0 w ↦ rw (w.seen-is, w.next-is)
      (rows_next (g.G.Graph.continues c.args.graph.now) (g.G.Graph.meet c.args.graph.now)
      c.args.level.now c.args.phase _ _ _ _ c.row-rights.ensures _ _ _ _ _ w.moves.ensures
      c.lefts.invariant w.mark_moves.ensures)
  | else-rights-ne0 w ↦ rw (w.seen-is, w.next-is)
      (rows_skip (g.G.Graph.continues c.args.graph.now) (g.G.Graph.meet c.args.graph.now)
      c.args.level.now c.args.phase _ _ _ _ c.row-rights.ensures _ _ (search rules)
      c.lefts.invariant)
]

pub returns : goal.returns
returns g c = rows_all (g.G.Graph.continues c.args.graph.now) (g.G.Graph.meet c.args.graph.now)
    c.args.level.now c.args.phase _ _ _ _ _
    (λ node is. omega (arith, c.end-left-end.ensures.below node is, c.lefts-test.false))
    c.lefts.invariant
