use Rattle.std.proofs.Common.{◌≡◌, ◌∙◌, ◌+◌, ◌*◌, None, Some, arith, slice_get, sym}
use Rattle.std.proofs.lemmas.Result.{err_from_is_err_and}
use Rattle.rate_equal.proofs.Added.{length_grown, too_many_more}
use Rattle.rate_equal.proofs.Coming.{narrow_low, none_below}
use Rattle.rate_equal.proofs.Narrowed.{narrowed_within}
use Rattle.rate_equal.proofs.restriction.narrow_block.Goals as goal

pub admit-requires-clause-within : goal.admit-requires-clause-within
admit-requires-clause-within c = rw c.narrowed.ensures (narrowed_within c.args.ways c.in-Some.to)

pub returns-in_err-admit-clause-too_many : goal.returns-in_err-admit-clause-too_many
returns-in_err-admit-clause-too_many c =
    let err = err_from_is_err_and c.from_residual.result c.from_residual.ensures.1 in
    rw (err.1, err.2)
    (λ is. too_many_more _ _ _ _ _ _ _ c.places.invariant.along.added (λ pair of. of)
    (c.in_err-admit.ensures.too_many is))

pub unreachable-requires : goal.unreachable-requires
unreachable-requires c =
    let within = c.requires.pairs c.lowest.result
    (c.places.invariant.left c.lowest.result c.lowest.ensures.has) in
    let longer = length_grown c.args.pairs.now.keys c.places.pairs.keys
    c.places.invariant.along.added.grown in
    let none : slice_get c.places.pairs.keys (c.args.block * 128 + c.lowest.result) ≡ None =
    sym c.get_index.ensures.key ∙ sym c.copied.ensures ∙ c.in_default.is in
    none_below c.places.pairs.keys (c.args.block * 128 + c.lowest.result)
    (omega (arith, within, longer)) none

pub places-preserved : goal.places-preserved
places-preserved c =
    let found : slice_get c.places.pairs.keys (c.args.block * 128 + c.lowest.result)
    ≡ Some c.in-Some.to =
    sym c.get_index.ensures.key ∙ sym c.copied.ensures ∙ c.in-Some.is in record {
      along = narrow_low _ _ _ _ _ _ _ _ _ c.in-Some.to _ _ _ _ c.places.invariant.along
          c.lowest.ensures c.without_lowest-rest.ensures.exact found
          (c.requires.pairs _ (c.places.invariant.left _ c.lowest.ensures.has))
          c.in_ok-admit.ensures.added (rw c.narrowed.ensures at c.in_ok-admit.ensures.there);
      left = λ position has. c.places.invariant.left position
          ((c.without_lowest-rest.ensures.exact position).0 has).0;
    }
