use Rattle.std.proofs.Common.{◌+◌, ◌<◌, ℕ, All, get_or}
use Rattle.dead_words.specs.Searched.{HaveItems, IsGrown, IsReachedIn, LeadsIntoKnown}
use Rattle.dead_words.specs.declared.search.Reached.{Reached}
use Rattle.dead_words.proofs.search.next_level.Given as goal

-- items lead from the states so far to known ones, and what became known is next
abbrev pub invariant-level : goal.invariant-level
invariant-level l = record {
  reached : All (IsReachedIn l.nfa) l.next.items;
  items : (items : ℕ) → HaveItems items l.level → HaveItems (items + 1) l.next.items;
  grown : IsGrown l.nfa l.initial.known.keys l.known.keys l.next.items;
  gone : (k : ℕ) (d : Reached) → k < l.from-index
      → LeadsIntoKnown l.nfa l.known.keys (get_or l.level k d).state;
}
