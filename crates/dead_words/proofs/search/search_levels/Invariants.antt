use Rattle.std.proofs.Common.{All}
use Rattle.dead_words.specs.Searched.{HaveItems, IsReachedIn, IsSearched}
use Rattle.dead_words.proofs.search.search_levels.Given as goal

-- the levels so far are searched
abbrev pub invariant-levels : goal.invariant-levels
invariant-levels l = record {
  reached : All (IsReachedIn l.nfa) l.level.items;
  items : HaveItems l.counter l.level.items;
  searched : IsSearched l.nfa l.counter l.known.keys l.level.items;
}
