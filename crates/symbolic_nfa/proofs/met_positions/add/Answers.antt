use Rattle.std.proofs.Common.{arith}
use Rattle.symbolic_nfa.proofs.Adding.{added-all, added-here, added-none, added-passed}
use Rattle.symbolic_nfa.proofs.met_positions.add.Goals as goal
use Rattle.symbolic_nfa.proofs.met_positions.add.Goals.{then-has, else-has}

pub cells-init : goal.cells-init
cells-init c = added-none _ _ _

pub cells-preserved : goal.cells-preserved
cells-preserved c = elim c.if-has.branch [
  | then-has w ↦ rw w.masks-is
      (added-here _ _ _ _ _ c.cells.invariant (omega arith)
      (c.has.ensures.0 w.if-has.true))
  | else-has w ↦ rw w.masks-is
      (added-passed _ _ _ _ _ c.cells.invariant (λ is_in. let has = c.has.ensures.1 is_in in cc))
]

pub returns : goal.returns
returns c = added-all _ _ _ _ _ c.cells.invariant c.cells-test.false
