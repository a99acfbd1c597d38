use Rattle.std.proofs.Common.{arith, refl}
use Rattle.std.proofs.lemmas.Option.{slice_get_within}
use Rattle.std.proofs.lemmas.Result.{err_from_is_err_and}
use Rattle.rate_equal.proofs.Added.{too_many_more}
use Rattle.rate_equal.proofs.Coming.{bit_within, narrow_next}
use Rattle.rate_equal.proofs.Narrowed.{kept_same}
use Rattle.rate_equal.proofs.Stepping.{way_ended}
use Rattle.rate_equal.proofs.restriction.narrow_each.Goals as goal

pub narrow_block-requires-clause-pairs : goal.narrow_block-requires-clause-pairs
narrow_block-requires-clause-pairs c =
    bit_within _ _ _ _ _ _ c.requires.known.within _ _ _ c.block-known.type_inv
    c.block-losing.type_inv c.block-known.ensures _ _ c.parts.invariant

pub returns-in_err-narrow_block-clause-too_many : goal.returns-in_err-narrow_block-clause-too_many
returns-in_err-narrow_block-clause-too_many c =
    let err = err_from_is_err_and c.from_residual.result c.from_residual.ensures.1 in
    rw (err.1, err.2) (λ is. too_many_more _ _ _ _ _ _ _ c.parts.invariant.added (λ pair of. of)
    (c.in_err-narrow_block.ensures.too_many is))

pub parts-preserved : goal.parts-preserved
parts-preserved c =
    narrow_next _ _ _ _ _ _ c.requires.known.within _ _ _ c.block-known.type_inv
    c.block-losing.type_inv c.block-known.ensures _ _ c.parts.invariant
    (kept_same _ _ _ _ c.args.near.now.ways c.args.ways c.args.lost _ _ _
    c.block-known.type_inv c.block-known.ensures c.requires.lost.0 c.requires.lost.1 c.requires.held
    c.requires.known.within c.block-losing.ensures.first c.block-losing.ensures.second)
    _ c.insert_all.ensures _ _ c.in_ok-narrow_block.ensures.added c.in_ok-narrow_block.ensures.whole

pub returns-clause-whole : goal.returns-clause-whole
returns-clause-whole c = λ pair there led.
    let within = slice_get_within c.args.pairs.now.keys there.place pair there.found in
    way_ended _ _ _ _ _ _ _ _ c.parts.invariant there.place _
    (pair, there.has, there.found, refl, led) (λ waits. omega arith)
