use Rattle.std.proofs.Common.{◌≡◌}
use Rattle.rate_expr.proofs.MaskSets.{overlap_decides}
use Rattle.symbolic_nfa.proofs.Usefulness.{tables-shared}
use Rattle.symbolic_nfa.proofs.nfa.Nfa.new.Goals as goal

pub invariant_of-result : goal.invariant_of-result
invariant_of-result c =
    let same : c.in_ok-clone.field-0.value ≡ c.args.cells.now.value = c.in_ok-clone.ensures.cases in
    rw c.in_ok-new.ensures.ok
    (tables-shared _ _ _ _ _ _ _ _ _ c.positions.view_is same c.as_ref.ensures
    c.in_ok-met.ensures.sets c.requires c.in_ok-met.ensures.met
    (rw (← c.deref.ensures.value, ← c.union_of.ensures) c.ending_through-useful.ensures)
    c.before-growing.ensures.within c.before-growing.ensures.exact
    (rw (← c.first.ensures) (overlap_decides _ _ _ c.overlap-begins.ensures)))
