use Rattle.std.proofs.Common.{ℕ, arith, subst, sym}
use Rattle.rate_expr.specs.Sets.{Has}
use Rattle.rate_expr.proofs.MaskMembers.{has_first, has_one, has_second}
use Rattle.rate_expr.proofs.MaskSets.{has-below}
use Rattle.rate_equal.proofs.Deciding.{picking_next}
use Rattle.rate_equal.proofs.twins.one_of_each.Goals as goal

pub bounds-twins-position : goal.bounds-twins-position
bounds-twins-position c =
    let below = has-below c.args.mask 128 c.lowest-position.result c.ranges.mask.fits
    (c.positions.invariant.left c.lowest-position.result c.lowest-position.ensures.has) in
    omega (arith, below, c.requires)

pub lowest_or-requires : goal.lowest_or-requires
lowest_or-requires c = has-below c.args.mask 128 c.lowest-position.result c.ranges.mask.fits
    (c.positions.invariant.left c.lowest-position.result c.lowest-position.ensures.has)

pub positions-preserved : goal.positions-preserved
positions-preserved c = picking_next _ _ _ _ _ _ c.lowest-position.result c.positions.invariant
    c.lowest-position.ensures c.without_lowest-rest.ensures.exact
    (λ position has. has_first c.positions.found c.only-found.result position has) (
      c.lowest_or.result,
      has_second c.positions.found c.only-found.result c.lowest_or.result
          (subst (λ (m : ℕ). Has m c.lowest_or.result) (sym c.only-found.ensures)
          (has_one c.lowest_or.result)),
      c.lowest_or.ensures.is,
    )
