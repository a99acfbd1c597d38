use Rattle.std.proofs.Common.{◌≡◌, ◌+◌, ◌<◌, ℕ, All, List, bit_and, get_or, length}
use Rattle.std.specs.List.{Contains}
use Rattle.dead_words.specs.Searched.{HaveItems, IsGrown, IsReachedIn}
use Rattle.dead_words.specs.declared.letters.Letter.{Letter}
use Rattle.dead_words.proofs.search.expand.Given as goal

-- the letters so far lead to what is known
abbrev pub invariant-letters : goal.invariant-letters
invariant-letters l = record {
  reached : All (IsReachedIn l.nfa) l.next.items;
  items : (items : ℕ) → length l.from.word.items + 1 ≡ items
      → HaveItems items l.initial.next.items → HaveItems items l.next.items;
  grown : (first : List ℕ)
      → IsGrown l.nfa first l.initial.known.keys l.initial.next.items
      → IsGrown l.nfa first l.known.keys l.next.items;
  led : (k : ℕ) (d : Letter) → k < l.letter-index
      → Contains l.known.keys (bit_and l.ways (get_or l.letters k d).met);
}
