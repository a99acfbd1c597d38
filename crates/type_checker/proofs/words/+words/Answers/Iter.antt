-- An iteration: its operand, then its root.
use Rattle.std.proofs.Common.{ap, rules}
use Rattle.std.proofs.lemmas.Result.{err_from_is_err_and}
use Rattle.query_model.specs.Queries as q
use Rattle.query_model.specs.Queries.{plain_of}
use Rattle.query_model.specs.declared.query.Shape.TheViews.{the_lemmas}
use Rattle.symbolic_nfa.specs.Automata.{Automaton}
use Rattle.expressions.specs.Expressions as values
use Rattle.query_resolver.specs.Findings.{places_in}
use Rattle.query_resolver.specs.Nodes.{with_one}
use Rattle.type_checker.specs.Standings.{standing_of}
use Rattle.type_checker.proofs.Asked.{asked_as, asked_iter, asked_of, positions_decided}
use Rattle.type_checker.proofs.OverOne.{iter_kept, iter_refused}
use Rattle.type_checker.proofs.Ruled.{automaton_of}
use Rattle.type_checker.proofs.Answered.{answered_ok}
use Rattle.type_checker.proofs.Walked.{root_kept, root_refused, stopped_in}
use Rattle.type_checker.proofs.words.+words.Goals as goal

pub keep_words-keep_iteration-requires : goal.keep_words-keep_iteration-requires
keep_words-keep_iteration-requires t c =
    let cells = c.args.cells.now.value in
    let can = asked_iter cells _ _ _ (asked_as cells _ _ c.in-Iter.is c.requires) in
    (search (rules, the_lemmas), asked_of cells _ _ c.deref-in-Iter.ensures can)

pub keep_words-returns-in-Iter-clause-kept : goal.keep_words-returns-in-Iter-clause-kept
keep_words-returns-in-Iter-clause-kept t c =
    let kept = rw c.deref-in-Iter.ensures at c.keep_iteration.ensures.kept in
    rw c.in-Iter.is
    (kept (standing_of c.args.standing) c.in-Iter.field-1 (values.plain_of c.in-Iter.field-2))

pub keep_words-returns-in-Iter-clause-positions : goal.keep_words-returns-in-Iter-clause-positions
keep_words-returns-in-Iter-clause-positions t c =
    let sets = rw c.deref-in-Iter.ensures at c.keep_iteration.ensures.positions in
    rw c.in-Iter.is (sets c.in-Iter.field-1 (values.plain_of c.in-Iter.field-2))

pub keep_words-returns-in-Iter-clause-refused : goal.keep_words-returns-in-Iter-clause-refused
keep_words-returns-in-Iter-clause-refused t c =
    let refused = rw c.deref-in-Iter.ensures at c.keep_iteration.ensures.refused in
    rw c.in-Iter.is
    (refused (standing_of c.args.standing) c.in-Iter.field-1 (values.plain_of c.in-Iter.field-2))

-- its root, after its operand
pub keep_iteration-new-requires : goal.keep_iteration-new-requires
keep_iteration-new-requires t c =
    positions_decided c.args.cells.now.value (plain_of c.args.operand.now.shape) _ c.requires
    c.in_ok-positions.ensures.positions

pub keep_iteration-returns-in_err-positions-clause-refused :
    goal.keep_iteration-returns-in_err-positions-clause-refused
keep_iteration-returns-in_err-positions-clause-refused t c =
    let err = err_from_is_err_and c.from_residual.result c.from_residual.ensures.1 in
    rw (err.1, err.2) (λ standing number step.
    stopped_in c.args.cells.now.value.layout.columns standing
    (q.iter (plain_of c.args.operand.now.shape) number step)
    (with_one (places_in c.args.operand.now) c.args.span) _ c.in_err-positions.ensures.refused)

pub keep_iteration-returns-clause-kept : goal.keep_iteration-returns-clause-kept
keep_iteration-returns-clause-kept t c = λ standing number step.
    let of_it = automaton_of c.args.cells.now.value (plain_of c.args.operand.now.shape) _ _
    c.in_ok-inner.ensures c.in_ok-positions.ensures.positions in
    root_kept c.args.cells.now.value.layout.columns standing
    (q.iter (plain_of c.args.operand.now.shape) number step)
    (with_one (places_in c.args.operand.now) c.args.span) c.in_ok-positions.ensures.kept
    c.iterated.result
    (iter_kept c.args.cells.now.value _ (ap (λ (nfa : Automaton). nfa.cells) c.in_ok-inner.ensures)
    (plain_of c.args.operand.now.shape) of_it number step c.iterated.result c.iterated.ensures.kept)

pub keep_iteration-returns-clause-positions : goal.keep_iteration-returns-clause-positions
keep_iteration-returns-clause-positions t c = λ number step.
    let of_it = automaton_of c.args.cells.now.value (plain_of c.args.operand.now.shape) _ _
    c.in_ok-inner.ensures c.in_ok-positions.ensures.positions in
    answered_ok c.iterated.result _ _ c.iterated.ensures.kept
    (λ sets given. (given (plain_of c.args.operand.now.shape) number step of_it).sets)

pub keep_iteration-returns-clause-refused : goal.keep_iteration-returns-clause-refused
keep_iteration-returns-clause-refused t c = λ standing number step.
    let of_it = automaton_of c.args.cells.now.value (plain_of c.args.operand.now.shape) _ _
    c.in_ok-inner.ensures c.in_ok-positions.ensures.positions in
    root_refused c.args.cells.now.value.layout.columns standing
    (q.iter (plain_of c.args.operand.now.shape) number step)
    (with_one (places_in c.args.operand.now) c.args.span) c.in_ok-positions.ensures.kept
    c.iterated.result
    (iter_refused c.args.cells.now.value _
    (ap (λ (nfa : Automaton). nfa.cells) c.in_ok-inner.ensures)
    (plain_of c.args.operand.now.shape) of_it number step c.iterated.result c.args.span
    c.iterated.ensures.refused)
