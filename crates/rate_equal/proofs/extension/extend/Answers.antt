use Rattle.std.proofs.Common.{◌≡◌}
use Rattle.std.proofs.lemmas.Result.{err_from_is_err_and}
use Rattle.rate_equal.proofs.Added.{too_many_more}
use Rattle.rate_equal.proofs.Coming.{along_all, look_next, those_all}
use Rattle.rate_equal.proofs.extension.extend.Goals as goal

pub returns-in_err-add-clause-too_many : goal.returns-in_err-add-clause-too_many
returns-in_err-add-clause-too_many c =
    let err = err_from_is_err_and c.from_residual.result c.from_residual.ensures.1 in
    rw (err.1, err.2) (λ is. too_many_more _ _ _ _ _ _ _ c.looks.invariant.added
    (λ pair same. (c.in-Some.letter, c.in-Some.ensures, same))
    (rw c.target.ensures at (c.in_err-add.ensures.too_many is c.looks.invariant.added.few)))

pub looks-preserved : goal.looks-preserved
looks-preserved c =
    look_next _ _ _ _ _ _ _ c.in-Some.letter _ _ _ _ c.looks.invariant c.in-Some.ensures
    (rw c.target.ensures at c.in_ok-add.ensures.added)
    (rw c.target.ensures at c.in_ok-add.ensures.there) c.in_ok-pass.ensures

pub returns-in_err-extend_each-clause-too_many : goal.returns-in_err-extend_each-clause-too_many
returns-in_err-extend_each-clause-too_many c =
    let err = err_from_is_err_and c.from_residual-in_err-extend_each.result
    c.from_residual-in_err-extend_each.ensures.1 in
    let same : c.deref.result.now ≡ c.args.alphabet.now.letters.items = cc in
    rw (err.1, err.2) (λ is. too_many_more _ _ _ _ _ _ _ c.looks.invariant.added (λ pair of. of)
    (rw same at (c.in_err-extend_each.ensures.too_many is)))

pub returns-clause-added : goal.returns-clause-added
returns-clause-added c =
    let same : c.deref.result.now ≡ c.args.alphabet.now.letters.items = cc in
    along_all _ _ _ _ _ _ _ _ _ _ c.looks.invariant (rw same at c.in_ok-extend_each.ensures.added)

pub returns-clause-whole : goal.returns-clause-whole
returns-clause-whole c =
    let same : c.deref.result.now ≡ c.args.alphabet.now.letters.items = cc in
    those_all _ _ _ _ _ _ _ _ _ _ c.looks.invariant (rw same at c.in_ok-extend_each.ensures.added)
    (rw same at c.in_ok-extend_each.ensures.whole)
