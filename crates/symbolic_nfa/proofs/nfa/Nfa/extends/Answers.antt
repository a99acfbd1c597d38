use Rattle.rate_expr.proofs.MaskSets.{overlap_decides}
use Rattle.symbolic_nfa.proofs.StatesOn.{extends-begins, extends-growing}
use Rattle.symbolic_nfa.proofs.nfa.Nfa.extends.Goals as goal

pub returns-in-Initial : goal.returns-in-Initial
returns-in-Initial c =
    rw (c.in-Initial.is, c.deref.ensures, ← c.self.view_is)
    (extends-begins _ _ _ _ c.self.invariant)

pub returns-in-At : goal.returns-in-At
returns-in-At c =
    rw (c.in-At.is, ← c.self.view_is)
    (extends-growing _ _ _ _ _ c.self.invariant _
    (rw c.deref-in-At.ensures at (overlap_decides _ _ _ c.overlap.ensures)))
