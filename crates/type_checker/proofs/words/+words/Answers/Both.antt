-- Both operands, and their automata.
use Rattle.std.proofs.Common.{None, ap}
use Rattle.std.proofs.lemmas.Result.{err_from_is_err_and}
use Rattle.query_model.specs.Queries.{plain_of}
use Rattle.symbolic_nfa.specs.Automata.{Automaton}
use Rattle.type_checker.proofs.Asked.{positions_decided}
use Rattle.type_checker.proofs.FirstNodes.{broken_after}
use Rattle.type_checker.proofs.Ruled.{automaton_of}
use Rattle.type_checker.proofs.Walked.{stops_before, stops_after}
use Rattle.type_checker.proofs.words.+words.Goals as goal

pub keep_both-new-requires : goal.keep_both-new-requires
keep_both-new-requires t c =
    positions_decided c.args.cells.now.value (plain_of c.args.first.now.shape) _ c.requires.first
    c.in_ok-left.ensures.positions

pub keep_both-new-requires-2 : goal.keep_both-new-requires-2
keep_both-new-requires-2 t c =
    positions_decided c.args.cells.now.value (plain_of c.args.second.now.shape) _ c.requires.second
    c.in_ok-right.ensures.positions

pub keep_both-returns-in_err-left-clause-refused : goal.keep_both-returns-in_err-left-clause-refused
keep_both-returns-in_err-left-clause-refused t c =
    let err = err_from_is_err_and c.from_residual.result c.from_residual.ensures.1 in
    rw (err.1, err.2) (stops_before _ _ _ c.in_err-left.ensures.refused)

pub keep_both-returns-in_err-right-clause-refused :
    goal.keep_both-returns-in_err-right-clause-refused
keep_both-returns-in_err-right-clause-refused t c =
    let err = err_from_is_err_and c.from_residual-in_err-right.result
    c.from_residual-in_err-right.ensures.1 in
    rw (err.1, err.2) (stops_after _ _ _ c.in_ok-left.ensures.kept c.in_err-right.ensures.refused)

pub keep_both-returns-clause-kept : goal.keep_both-returns-clause-kept
keep_both-returns-clause-kept t c =
    broken_after _ _ None c.in_ok-left.ensures.kept c.in_ok-right.ensures.kept

pub keep_both-returns-clause-automata : goal.keep_both-returns-clause-automata
keep_both-returns-clause-automata t c = record {
  left =
      automaton_of c.args.cells.now.value (plain_of c.args.first.now.shape) _ _ c.in_ok-new.ensures
      c.in_ok-left.ensures.positions;
  right = automaton_of c.args.cells.now.value (plain_of c.args.second.now.shape) _ _
      c.in_ok-new-2.ensures c.in_ok-right.ensures.positions;
  left_cells = ap (λ (nfa : Automaton). nfa.cells) c.in_ok-new.ensures;
  right_cells = ap (λ (nfa : Automaton). nfa.cells) c.in_ok-new-2.ensures;
}
