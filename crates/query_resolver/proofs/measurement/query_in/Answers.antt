use Rattle.std.proofs.lemmas.Result.{err_from_is_err_and}
use Rattle.query_resolver.proofs.measurement.query_in.Goals as goal

pub returns-in_err-typed-clause-refused : goal.returns-in_err-typed-clause-refused
returns-in_err-typed-clause-refused c =
    let err = err_from_is_err_and c.from_residual-in_err-typed.result
    c.from_residual-in_err-typed.ensures.1 in
    rw (err.1, err.2) (rw c.main-main.ensures.same at c.in_err-typed.ensures.refused)

pub returns-clause-named : goal.returns-clause-named
returns-clause-named c =
    let made = rw c.main-main.ensures.same at c.in_ok-typed.ensures.made in
    record { named = made.resolved; types = made.typed.keeps; places = made.places }
