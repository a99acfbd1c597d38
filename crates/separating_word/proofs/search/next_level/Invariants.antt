use Rattle.std.proofs.Common.{◌+◌, ◌<◌, ℕ, All, get_or}
use Rattle.separating_word.specs.Searched.{HaveItems, IsGrown, IsReachedIn, LeadIntoKnown}
use Rattle.separating_word.specs.declared.search.Reached.{Reached}
use Rattle.separating_word.proofs.search.next_level.Given as goal

-- items lead from the states so far to known ones, and what became known is next
abbrev pub invariant-level : goal.invariant-level
invariant-level l = record {
  reached : All (IsReachedIn l.automata) l.next.items;
  items : (items : ℕ) → HaveItems items l.level → HaveItems (items + 1) l.next.items;
  grown : IsGrown l.automata l.initial.known.keys l.known.keys l.next.items;
  gone : (k : ℕ) (d : Reached) → k < l.from-index → LeadIntoKnown l.automata l.known.keys
      (get_or l.level k d).left (get_or l.level k d).right;
}
