use Rattle.std.proofs.Common.{arith}
use Rattle.symbolic_nfa.proofs.Ending.{before-added, before-all, before-below, before-passed}
use Rattle.symbolic_nfa.proofs.ends.before.Goals as goal
use Rattle.symbolic_nfa.proofs.ends.before.Goals.{then-overlap, else-overlap}

pub positions-preserved : goal.positions-preserved
positions-preserved c = elim c.if-overlap.branch [
  | then-overlap w ↦ rw (w.found-is, w.only-found.ensures)
      (before-added _ _ _ _ _ c.positions.invariant c.follow.ensures w.if-overlap.ensures)
  | else-overlap w ↦ rw w.found-is
      (before-passed _ _ _ _ _ c.positions.invariant c.follow.ensures
      (λ both. w.if-overlap.ensures both.0 both.1 both.2))
]

pub returns-clause-exact : goal.returns-clause-exact
returns-clause-exact c =
    before-all _ _ _ _ c.count-position-end.ensures.sets c.positions.invariant (omega arith)

pub returns-clause-within : goal.returns-clause-within
returns-clause-within c =
    before-below _ _ _ _ c.count-position-end.ensures.sets c.positions.invariant
