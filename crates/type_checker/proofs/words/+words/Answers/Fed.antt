-- The second operand of a composition.
use Rattle.std.proofs.Common.{rules}
use Rattle.std.proofs.lemmas.Result.{IfErr-weaker, err_from_is_err_and, on_ok_weaker}
use Rattle.query_model.specs.Queries.{plain_of}
use Rattle.query_model.specs.declared.query.Shape.TheViews.{the_lemmas}
use Rattle.type_checker.specs.Standings.{standing_of}
use Rattle.type_checker.proofs.Asked.{positions_decided}
use Rattle.type_checker.proofs.Fed.{fed_kept, fed_refused, fed_stopped}
use Rattle.type_checker.proofs.words.+words.Goals as goal

pub keep_fed-keep_words-requires : goal.keep_fed-keep_words-requires
keep_fed-keep_words-requires t c = (search (rules, the_lemmas), c.in_ok-values.ensures.asked)

pub keep_fed-fed-requires : goal.keep_fed-fed-requires
keep_fed-fed-requires t c =
    positions_decided _ (plain_of c.args.second.now.shape) _ c.in_ok-values.ensures.asked
    c.in_ok-right.ensures.positions

pub keep_fed-returns-in_err-right-clause-refused : goal.keep_fed-returns-in_err-right-clause-refused
keep_fed-returns-in_err-right-clause-refused t c =
    let err = err_from_is_err_and c.from_residual-in_err-right.result
    c.from_residual-in_err-right.ensures.1 in
    let values = rw c.as_ref.ensures at c.in_ok-values.ensures.layout in
    rw (err.1, err.2)
    (fed_stopped c.args.cells.now.value.layout.columns (standing_of c.args.standing)
    (plain_of c.args.first.now.shape) c.args.second.now _ values c.args.span _
    c.in_err-right.ensures.refused)

pub keep_fed-returns-clause-kept : goal.keep_fed-returns-clause-kept
keep_fed-returns-clause-kept t c =
    let values = rw c.as_ref.ensures at c.in_ok-values.ensures.layout in
    fed_kept c.args.cells.now.value.layout.columns (standing_of c.args.standing)
    (plain_of c.args.first.now.shape) c.args.second.now _ values c.args.span
    c.in_ok-right.ensures.kept _
    (on_ok_weaker c.fed.result (λ each. each _ c.in_ok-right.ensures.positions) c.fed.ensures.kept)

pub keep_fed-returns-clause-refused : goal.keep_fed-returns-clause-refused
keep_fed-returns-clause-refused t c =
    let values = rw c.as_ref.ensures at c.in_ok-values.ensures.layout in
    fed_refused c.args.cells.now.value.layout.columns (standing_of c.args.standing)
    (plain_of c.args.first.now.shape) c.args.second.now _ values c.args.span
    c.in_ok-right.ensures.kept _
    (IfErr-weaker c.fed.result _ _ (λ stop each. each _ c.in_ok-right.ensures.positions)
    c.fed.ensures.refused)
