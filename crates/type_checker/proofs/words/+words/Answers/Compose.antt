-- A composition: its two operands and its root.
use Rattle.std.proofs.Common.{rules}
use Rattle.std.proofs.lemmas.Result.{err_from_is_err_and}
use Rattle.query_model.specs.Queries.{plain_of}
use Rattle.query_model.specs.declared.query.Shape.TheViews.{the_lemmas}
use Rattle.type_checker.specs.Standings.{standing_of}
use Rattle.type_checker.proofs.Asked.{asked_as, asked_both_of, asked_compose}
use Rattle.type_checker.proofs.Fed.{composed_first, composed_kept, composed_second}
use Rattle.type_checker.proofs.words.+words.Goals as goal

pub keep_words-keep_composition-requires : goal.keep_words-keep_composition-requires
keep_words-keep_composition-requires t c =
    let cells = c.args.cells.now.value in
    let can = asked_as cells _ _ c.in-Compose.is c.requires in (
      search (rules, the_lemmas),
      asked_both_of cells _ _ _ _ c.deref-in-Compose.ensures c.deref-in-Compose-2.ensures can,
    )

pub keep_words-returns-in-Compose-clause-kept : goal.keep_words-returns-in-Compose-clause-kept
keep_words-returns-in-Compose-clause-kept t c =
    rw c.in-Compose.is
    (rw (c.deref-in-Compose.ensures, c.deref-in-Compose-2.ensures) at
    c.keep_composition.ensures.kept)

pub keep_words-returns-in-Compose-clause-positions :
    goal.keep_words-returns-in-Compose-clause-positions
keep_words-returns-in-Compose-clause-positions t c =
    rw c.in-Compose.is (rw (c.deref-in-Compose.ensures) at c.keep_composition.ensures.positions)

pub keep_words-returns-in-Compose-clause-refused : goal.keep_words-returns-in-Compose-clause-refused
keep_words-returns-in-Compose-clause-refused t c =
    rw c.in-Compose.is
    (rw (c.deref-in-Compose.ensures, c.deref-in-Compose-2.ensures) at
    c.keep_composition.ensures.refused)

-- its two operands and its root
pub keep_composition-keep_words-requires : goal.keep_composition-keep_words-requires
keep_composition-keep_words-requires t c = (
  search (rules, the_lemmas),
  asked_compose c.args.cells.now.value (plain_of c.args.first.now.shape)
      (plain_of c.args.second.now.shape) c.requires,
)

pub keep_composition-returns-in_err-left-clause-refused :
    goal.keep_composition-returns-in_err-left-clause-refused
keep_composition-returns-in_err-left-clause-refused t c =
    let err = err_from_is_err_and c.from_residual.result c.from_residual.ensures.1 in
    rw (err.1, err.2)
    (composed_first c.args.cells.now.value.layout.columns (standing_of c.args.standing)
    c.args.first.now c.args.second.now c.args.span _ c.in_err-left.ensures.refused)

pub keep_composition-returns-in_err-keep_fed-clause-refused :
    goal.keep_composition-returns-in_err-keep_fed-clause-refused
keep_composition-returns-in_err-keep_fed-clause-refused t c =
    let err = err_from_is_err_and c.from_residual-in_err-keep_fed.result
    c.from_residual-in_err-keep_fed.ensures.1 in
    rw (err.1, err.2)
    (composed_second c.args.cells.now.value.layout.columns (standing_of c.args.standing)
    c.args.first.now c.args.second.now c.args.span c.in_ok-left.ensures.kept _
    c.in_err-keep_fed.ensures.refused)

pub keep_composition-returns-clause-kept : goal.keep_composition-returns-clause-kept
keep_composition-returns-clause-kept t c =
    composed_kept c.args.cells.now.value.layout.columns (standing_of c.args.standing)
    c.args.first.now c.args.second.now c.args.span c.in_ok-left.ensures.kept
    c.in_ok-keep_fed.ensures.kept
