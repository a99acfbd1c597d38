use Rattle.std.proofs.Common.{arith, refl}
use Rattle.std.proofs.lemmas.Option.{slice_get_within}
use Rattle.std.proofs.lemmas.Result.{err_from_is_err_and}
use Rattle.rate_equal.proofs.Added.{too_many_more}
use Rattle.rate_equal.proofs.Coming.{letters_next}
use Rattle.rate_equal.proofs.Stepping.{way_ended}
use Rattle.rate_equal.proofs.extension.extend_each.Goals as goal

pub returns-in_err-extend_block-clause-too_many : goal.returns-in_err-extend_block-clause-too_many
returns-in_err-extend_block-clause-too_many c =
    let err = err_from_is_err_and c.from_residual.result c.from_residual.ensures.1 in
    rw (err.1, err.2) (λ is. too_many_more _ _ _ _ _ _ _ c.parts.invariant.added (λ pair of. of)
    (c.in_err-extend_block.ensures.too_many is))

pub parts-preserved : goal.parts-preserved
parts-preserved c = letters_next _ _ _ _ _ _ _ _ _ _ _ c.parts.invariant c.block.ensures
    c.in_ok-extend_block.ensures.added c.in_ok-extend_block.ensures.whole

pub returns-clause-whole : goal.returns-clause-whole
returns-clause-whole c = λ place letter at found.
    let within = slice_get_within c.args.letters.now place letter found in
    way_ended _ _ _ _ _ _ _ _ c.parts.invariant place _ (letter, at, found, refl)
    (λ waits. omega arith)
