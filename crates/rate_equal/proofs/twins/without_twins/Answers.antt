use Rattle.std.proofs.Common.{ℕ, IsTrue, arith, inl, inr, subst, sym}
use Rattle.rate_expr.specs.Sets.{Has}
use Rattle.rate_expr.proofs.MaskMembers.{has_first, has_one, has_second}
use Rattle.rate_expr.proofs.MaskSets.{has-below, overlap_decides}
use Rattle.rate_equal.proofs.SameRows.{sorting_next}
use Rattle.rate_equal.proofs.twins.without_twins.Goals as goal
use Rattle.rate_equal.proofs.twins.without_twins.Goals.{then-not-overlap, else-not-overlap}

pub bounds-twins-position : goal.bounds-twins-position
bounds-twins-position c =
    let below = has-below c.args.second 128 c.lowest-position.result c.ranges.second.fits
    (c.positions.invariant.left c.lowest-position.result c.lowest-position.ensures.has) in
    omega (arith, below, c.requires)

pub only-found-requires : goal.only-found-requires
only-found-requires c = has-below c.args.second 128 c.lowest-position.result c.ranges.second.fits
    (c.positions.invariant.left c.lowest-position.result c.lowest-position.ensures.has)

pub positions-preserved : goal.positions-preserved
positions-preserved c = elim c.if-not-overlap.branch [
  | then-not-overlap w ↦ rw w.found-is
      (sorting_next _ _ _ _ _ c.positions.found _ c.lowest-position.result
      c.positions.invariant c.lowest-position.ensures c.without_lowest-rest.ensures.exact
      (λ position has. has_first c.positions.found w.only-found.result position has)
      (inl (has_second c.positions.found w.only-found.result c.lowest-position.result
      (subst (λ (m : ℕ). Has m c.lowest-position.result) (sym w.only-found.ensures)
      (has_one c.lowest-position.result)))))
  | else-not-overlap w ↦
      let meets : IsTrue c.overlap.result = cc in
      let (twin, has, on) = (overlap_decides _ _ c.overlap.result c.overlap.ensures).0 meets in
      rw w.found-is (sorting_next _ _ _ _ _ c.positions.found _ c.lowest-position.result
      c.positions.invariant c.lowest-position.ensures c.without_lowest-rest.ensures.exact
      (λ position has. has) (inr (twin, on, has)))
]
