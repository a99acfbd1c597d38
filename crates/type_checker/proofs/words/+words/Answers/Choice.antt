-- A choice: its operands, then its root.
use Rattle.std.proofs.Common.{rules}
use Rattle.std.proofs.lemmas.Result.{err_from_is_err_and}
use Rattle.query_model.specs.Queries as q
use Rattle.query_model.specs.Queries.{plain_of}
use Rattle.query_model.specs.declared.query.Shape.TheViews.{the_lemmas}
use Rattle.query_resolver.specs.Findings.{places_in}
use Rattle.query_resolver.specs.Nodes.{with_two}
use Rattle.type_checker.specs.Standings.{standing_of}
use Rattle.type_checker.proofs.Asked.{asked_as, asked_choice, asked_of, few_together}
use Rattle.type_checker.proofs.OverTwo.{two_kept, two_refused}
use Rattle.type_checker.proofs.Answered.{answered_ok}
use Rattle.type_checker.proofs.Walked.{stopped_in}
use Rattle.type_checker.proofs.words.+words.Goals as goal

pub keep_words-keep_choice-requires : goal.keep_words-keep_choice-requires
keep_words-keep_choice-requires t c =
    let cells = c.args.cells.now.value in
    let can = asked_as cells _ _ c.in-Or.is c.requires in
    let both = asked_choice cells _ _ can in (
      search (rules, the_lemmas),
      (
        asked_of cells _ _ c.deref.ensures both.0,
        (
          asked_of cells _ _ c.deref-in-Or.ensures both.1,
          rw (c.deref.ensures, c.deref-in-Or.ensures) can.few.2,
        ),
      ),
    )

pub keep_words-returns-in-Or-clause-kept : goal.keep_words-returns-in-Or-clause-kept
keep_words-returns-in-Or-clause-kept t c =
    let kept = rw (c.deref.ensures, c.deref-in-Or.ensures) at c.keep_choice.ensures.kept in
    rw c.in-Or.is (kept (standing_of c.args.standing))

pub keep_words-returns-in-Or-clause-positions : goal.keep_words-returns-in-Or-clause-positions
keep_words-returns-in-Or-clause-positions t c =
    let sets = rw (c.deref.ensures, c.deref-in-Or.ensures) at c.keep_choice.ensures.positions in
    rw c.in-Or.is sets

pub keep_words-returns-in-Or-clause-refused : goal.keep_words-returns-in-Or-clause-refused
keep_words-returns-in-Or-clause-refused t c =
    let refused = rw (c.deref.ensures, c.deref-in-Or.ensures) at c.keep_choice.ensures.refused in
    rw c.in-Or.is (refused (standing_of c.args.standing))

-- its root, after its operands
pub keep_choice-choice-requires-clause-few : goal.keep_choice-choice-requires-clause-few
keep_choice-choice-requires-clause-few t c =
    few_together c.args.cells.now.value (plain_of c.args.first.now.shape)
    (plain_of c.args.second.now.shape) _ c.in_ok-operands.ensures.automata c.requires.few

pub keep_choice-returns-in_err-operands-clause-refused :
    goal.keep_choice-returns-in_err-operands-clause-refused
keep_choice-returns-in_err-operands-clause-refused t c =
    let err = err_from_is_err_and c.from_residual.result c.from_residual.ensures.1 in
    rw (err.1, err.2) (λ standing.
    stopped_in c.args.cells.now.value.layout.columns standing
    (q.choice (plain_of c.args.first.now.shape) (plain_of c.args.second.now.shape))
    (with_two (places_in c.args.first.now) (places_in c.args.second.now) c.args.span)
    _ c.in_err-operands.ensures.refused)

pub keep_choice-returns-clause-kept : goal.keep_choice-returns-clause-kept
keep_choice-returns-clause-kept t c = λ standing.
    two_kept q.choice (plain_of c.args.first.now.shape) (plain_of c.args.second.now.shape)
    (with_two (places_in c.args.first.now) (places_in c.args.second.now) c.args.span)
    c.args.cells.now.value _ c.in_ok-operands.ensures.automata c.choice.result standing
    c.in_ok-operands.ensures.kept c.choice.ensures.kept

pub keep_choice-returns-clause-positions : goal.keep_choice-returns-clause-positions
keep_choice-returns-clause-positions t c =
    answered_ok c.choice.result _ _ c.choice.ensures.kept (λ sets given.
    (given c.args.cells.now.value (plain_of c.args.first.now.shape)
    (plain_of c.args.second.now.shape) c.in_ok-operands.ensures.automata).sets)

pub keep_choice-returns-clause-refused : goal.keep_choice-returns-clause-refused
keep_choice-returns-clause-refused t c = λ standing.
    two_refused q.choice (plain_of c.args.first.now.shape) (plain_of c.args.second.now.shape)
    (with_two (places_in c.args.first.now) (places_in c.args.second.now) c.args.span)
    c.args.cells.now.value _ c.in_ok-operands.ensures.automata c.choice.result standing
    c.in_ok-operands.ensures.kept c.choice.ensures.refused
