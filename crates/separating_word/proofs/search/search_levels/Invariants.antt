use Rattle.std.proofs.Common.{All}
use Rattle.separating_word.specs.Searched.{HaveItems, IsReachedIn, IsSearched}
use Rattle.separating_word.proofs.search.search_levels.Given as goal

-- the levels so far are searched
abbrev pub invariant-levels : goal.invariant-levels
invariant-levels l = record {
  reached : All (IsReachedIn l.automata) l.level.items;
  items : HaveItems l.counter l.level.items;
  searched : IsSearched l.automata l.counter l.known.keys l.level.items;
}
