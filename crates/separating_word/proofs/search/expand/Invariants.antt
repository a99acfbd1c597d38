use Rattle.std.proofs.Common.{◌≡◌, ◌+◌, ◌<◌, ℕ, All, List, get_or, length}
use Rattle.std.specs.List.{Contains}
use Rattle.separating_word.specs.Letters.{target}
use Rattle.separating_word.specs.Searched.{HaveItems, IsGrown, IsReachedIn}
use Rattle.separating_word.specs.declared.letters.Letter.{Letter}
use Rattle.separating_word.proofs.search.expand.Given as goal

-- the letters so far lead to what is known
abbrev pub invariant-letters : goal.invariant-letters
invariant-letters l = record {
  reached : All (IsReachedIn l.automata) l.next.items;
  items : (items : ℕ) → length l.from.word.items + 1 ≡ items
      → HaveItems items l.initial.next.items → HaveItems items l.next.items;
  grown : (first : List (ℕ × ℕ))
      → IsGrown l.automata first l.initial.known.keys l.initial.next.items
      → IsGrown l.automata first l.known.keys l.next.items;
  led : (k : ℕ) (d : Letter) → k < l.letter-index
      → Contains l.known.keys (target l.ways (get_or l.letters k d));
}
