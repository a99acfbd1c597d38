use Rattle.rate_expr.proofs.MaskSets.{overlap_decides}
use Rattle.symbolic_nfa.proofs.nfa.Nfa.accepts.Goals as goal

pub returns-in-At : goal.returns-in-At
returns-in-At c =
    rw (c.in-At.is, ← c.self.view_is)
    (rw (c.last.ensures, c.deref-in-At.ensures) at (overlap_decides _ _ _ c.overlap.ensures))
