use Rattle.std.proofs.Common.{arith}
use Rattle.std.proofs.lemmas.List.Elements.{All-nil}
use Rattle.separating_word.proofs.Differing.{agree_if_not}
use Rattle.separating_word.proofs.Searching.{searched_first}
use Rattle.separating_word.proofs.search.cells_apart.Goals as goal

pub returns-then-differ : goal.returns-then-differ
returns-then-differ c = rw c.new.ensures.items record {
  cells_of = All-nil _;
  agree = λ word is less. absurd (omega (arith, less));
}

pub search_levels-requires-clause-searched : goal.search_levels-requires-clause-searched
search_levels-requires-clause-searched c =
    searched_first c.args.automata.now _ c.new-known.ensures.empty _
    (agree_if_not _ _ _ c.differ.ensures c.if-differ.false) c.in_ok-first.ensures.initial
