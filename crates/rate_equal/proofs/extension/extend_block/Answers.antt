use Rattle.std.proofs.Common.{◌≡◌, ◌+◌, ◌*◌, None, arith, get_or, slice_get}
use Rattle.std.proofs.lemmas.Option.{slice_get_past}
use Rattle.std.proofs.lemmas.Result.{err_from_is_err_and}
use Rattle.rate_equal.proofs.Added.{too_many_more}
use Rattle.rate_equal.proofs.Coming.{is_target, letter_next, letter_none}
use Rattle.rate_equal.proofs.Lettering.{letter_at, no_letter}
use Rattle.rate_equal.proofs.extension.extend_block.Goals as goal
use Rattle.rate_equal.proofs.extension.extend_block.Goals.{then-place-letters+in_ok-add}
use Rattle.rate_equal.proofs.extension.extend_block.Goals.{else-place-letters}

pub returns-in_err-add-clause-too_many : goal.returns-in_err-add-clause-too_many
returns-in_err-add-clause-too_many c =
    let err = err_from_is_err_and c.from_residual.result c.from_residual.ensures.1 in
    let place = c.args.block * 128 + c.lowest.result in
    let letter = get_or c.args.letters.now place no_letter in
    rw (err.1, err.2) (λ is. too_many_more _ _ _ _ _ _ _ c.places.invariant.added
    (is_target _ _ letter place (letter_at c.args.letters.now place (omega arith)))
    (rw c.target.ensures at (c.in_err-add.ensures.too_many is c.places.invariant.added.few)))

pub places-preserved : goal.places-preserved
places-preserved c =
    let place = c.args.block * 128 + c.lowest.result in
    elim c.if-place-letters.branch [
      | then-place-letters+in_ok-add w ↦
          let letter = get_or c.args.letters.now place no_letter in
          rw (w.pairs-is, w.targets-is)
          (letter_next _ _ _ _ _ _ _ _ _ letter _ _ _ _ c.places.invariant
          c.lowest.ensures c.without_lowest-rest.ensures.exact
          (letter_at c.args.letters.now place (omega (arith, w.if-place-letters.true)))
          (rw w.target.ensures at w.in_ok-add.ensures.added)
          (rw w.target.ensures at w.in_ok-add.ensures.there))
      | else-place-letters w ↦
          let none : slice_get c.args.letters.now place ≡ None =
          slice_get_past c.args.letters.now place (omega (arith, w.if-place-letters.false)) in
          rw (w.pairs-is, w.targets-is) (letter_none _ _ _ _ _ _ _ _ _ _ _ c.places.invariant
          c.places.invariant.added.few c.lowest.ensures c.without_lowest-rest.ensures.exact none)
    ]
