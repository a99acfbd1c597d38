use Rattle.std.proofs.lemmas.Result.{err_from_is_err_and}
use Rattle.rate_equal.specs.Narrowed.{AreStatesWithin}
use Rattle.rate_equal.specs.Targets.{IsTarget}
use Rattle.rate_equal.proofs.Added.{added_more, too_many_more}
use Rattle.rate_equal.proofs.Finding.{found_all, found_near}
use Rattle.rate_equal.proofs.targets.from_known.Goals as goal

pub returns-in_err-extend-clause-too_many : goal.returns-in_err-extend-clause-too_many
returns-in_err-extend-clause-too_many c =
    let err = err_from_is_err_and c.from_residual-in_err-extend.result
    c.from_residual-in_err-extend.ensures.1 in
    rw (err.1, err.2)
    (λ is. too_many_more _ _ _ _ _ _ _ c.in_ok-narrow.ensures.added (λ pair of. of)
    (c.in_err-extend.ensures.too_many (cc)))

pub returns-clause-found : goal.returns-clause-found
returns-clause-found c =
    let letters = c.args.alphabet.now.letters.items in
    found_all letters c.args.ways _ _ _ _ c.in_ok-targets.ensures
    (added_more (IsTarget letters c.args.ways) (AreStatesWithin c.args.ways)
    (IsTarget letters c.args.ways) (AreStatesWithin c.args.ways) _ _ _ _
    c.in_ok-narrow.ensures.added (λ pair of. of) (λ pair of. of) _ _
    c.in_ok-extend.ensures.added)
    (found_near letters c.args.ways c.args.near.now.ways
    (c.without-first.result, c.without-second.result) c.without-first.type_inv
    c.without-second.type_inv c.without-first.ensures c.without-second.ensures
    _ _ _ _ _ _ _ c.requires.known c.in_ok-narrow.ensures.whole
    c.in_ok-left.ensures.first c.in_ok-left.ensures.second
    c.in_ok-extend.ensures.added c.in_ok-extend.ensures.whole)
