-- A combination: its operands, then its root.
use Rattle.std.proofs.Common.{rules}
use Rattle.std.proofs.lemmas.Result.{err_from_is_err_and}
use Rattle.query_model.specs.Queries as q
use Rattle.query_model.specs.Queries.{plain_of}
use Rattle.query_model.specs.declared.query.Shape.TheViews.{the_lemmas}
use Rattle.expressions.specs.Expressions as values
use Rattle.query_resolver.specs.Findings.{places_in}
use Rattle.query_resolver.specs.Nodes.{with_two}
use Rattle.type_checker.specs.Standings.{standing_of}
use Rattle.type_checker.proofs.Asked.{asked_as, asked_combine, asked_of}
use Rattle.type_checker.proofs.OverTwo.{two_kept, two_refused}
use Rattle.type_checker.proofs.Answered.{answered_err, answered_ok}
use Rattle.type_checker.proofs.Walked.{stopped_in}
use Rattle.type_checker.proofs.words.+words.Goals as goal

pub keep_words-keep_combination-requires : goal.keep_words-keep_combination-requires
keep_words-keep_combination-requires t c =
    let cells = c.args.cells.now.value in
    let can = asked_as cells _ _ c.in-Combine.is c.requires in
    let both = asked_combine cells _ _ _ can in (
      search (rules, the_lemmas),
      (
        asked_of cells _ _ c.deref-in-Combine.ensures both.0,
        asked_of cells _ _ c.deref-in-Combine-2.ensures both.1,
      ),
    )

pub keep_words-returns-in-Combine-clause-kept : goal.keep_words-returns-in-Combine-clause-kept
keep_words-returns-in-Combine-clause-kept t c =
    let kept = rw (c.deref-in-Combine.ensures, c.deref-in-Combine-2.ensures) at
    c.keep_combination.ensures.kept in
    rw c.in-Combine.is (kept (standing_of c.args.standing) (values.plain_of c.in-Combine.field-2))

pub keep_words-returns-in-Combine-clause-positions :
    goal.keep_words-returns-in-Combine-clause-positions
keep_words-returns-in-Combine-clause-positions t c =
    let sets = rw c.deref-in-Combine.ensures at c.keep_combination.ensures.positions in
    rw c.in-Combine.is (sets (values.plain_of c.in-Combine.field-2))

pub keep_words-returns-in-Combine-clause-refused : goal.keep_words-returns-in-Combine-clause-refused
keep_words-returns-in-Combine-clause-refused t c =
    let refused = rw (c.deref-in-Combine.ensures, c.deref-in-Combine-2.ensures) at
    c.keep_combination.ensures.refused in
    rw c.in-Combine.is
    (refused (standing_of c.args.standing) (values.plain_of c.in-Combine.field-2))

-- its root, after its operands
pub keep_combination-returns-in_err-operands-clause-refused :
    goal.keep_combination-returns-in_err-operands-clause-refused
keep_combination-returns-in_err-operands-clause-refused t c =
    let err = err_from_is_err_and c.from_residual.result c.from_residual.ensures.1 in
    rw (err.1, err.2) (λ standing value.
    stopped_in c.args.cells.now.value.layout.columns standing
    (q.combine (plain_of c.args.first.now.shape) (plain_of c.args.second.now.shape) value)
    (with_two (places_in c.args.first.now) (places_in c.args.second.now) c.args.span)
    _ c.in_err-operands.ensures.refused)

pub keep_combination-returns-clause-kept : goal.keep_combination-returns-clause-kept
keep_combination-returns-clause-kept t c = λ standing value.
    two_kept (λ f g. q.combine f g value) (plain_of c.args.first.now.shape)
    (plain_of c.args.second.now.shape)
    (with_two (places_in c.args.first.now) (places_in c.args.second.now) c.args.span)
    c.args.cells.now.value _ c.in_ok-operands.ensures.automata c.side_by_side.result standing
    c.in_ok-operands.ensures.kept (answered_ok c.side_by_side.result _ _ c.side_by_side.ensures.kept
    (λ made given cells f g. given cells f g value))

pub keep_combination-returns-clause-positions : goal.keep_combination-returns-clause-positions
keep_combination-returns-clause-positions t c = λ value.
    answered_ok c.side_by_side.result _ _ c.side_by_side.ensures.kept (λ sets given.
    (given c.args.cells.now.value (plain_of c.args.first.now.shape)
    (plain_of c.args.second.now.shape) value c.in_ok-operands.ensures.automata).sets)

pub keep_combination-returns-clause-refused : goal.keep_combination-returns-clause-refused
keep_combination-returns-clause-refused t c = λ standing value.
    two_refused (λ f g. q.combine f g value) (plain_of c.args.first.now.shape)
    (plain_of c.args.second.now.shape)
    (with_two (places_in c.args.first.now) (places_in c.args.second.now) c.args.span)
    c.args.cells.now.value _ c.in_ok-operands.ensures.automata c.side_by_side.result standing
    c.in_ok-operands.ensures.kept
    (answered_err c.side_by_side.result _ _ c.side_by_side.ensures.refused
    (λ made given cells f g. given cells f g value))
