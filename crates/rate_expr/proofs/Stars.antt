-- Words of one automaton one after the other.
use Rattle.std.proofs.Common.{◌≡◌, inl, inr, List, [], ◌∷◌, ◌++◌, refl, ap}
use Rattle.std.specs.List.{AllByRecursion}
use Rattle.rate_expr.specs.Words.{Word, join}
use Rattle.rate_expr.proofs.Automata.{Automaton, Continues, Accepts, of_star}

-- a path after a state ends a word, and then has others
ends_and_begins : (a : Automaton) (p : a.State) (word : Word) → Continues (of_star a) p word
    → (u : Word) × (pieces : List Word) × (word ≡ u ++ join pieces) × Continues a p u
    × AllByRecursion (Accepts a) pieces
ends_and_begins a p [] last = ([], [], refl, last, tt)
ends_and_begins a p (item ∷ word) (q, inl follow, meet, on) =
    let rest = ends_and_begins a q word on in
    (item ∷ rest.0, rest.1, ap (λ w. item ∷ w) rest.2, (q, follow, meet, rest.3), rest.4)
ends_and_begins a p (item ∷ word) (q, inr (last, first), meet, on) =
    let rest = ends_and_begins a q word on in (
      [],
      (item ∷ rest.0) ∷ rest.1,
      ap (λ w. item ∷ w) rest.2,
      last,
      ((q, first, meet, rest.3), rest.4),
    )

-- a path of a word continues as one from where the word ends
then : (a : Automaton) (p : a.State) (u v : Word) → Continues a p u
    → ((q : a.State) → a.Last q → Continues (of_star a) q v) → Continues (of_star a) p (u ++ v)
then a p [] v last after = after p last
then a p (item ∷ u) v (q, follow, meet, on) after = (q, inl follow, meet, then a q u v on after)

-- after an end, words may begin again and again
goes_round : (a : Automaton) (pieces : List Word) → AllByRecursion (Accepts a) pieces
    → (p : a.State) → a.Last p → Continues (of_star a) p (join pieces)
goes_round a [] all p last = last
goes_round a ([] ∷ pieces) (nullable, all) p last = goes_round a pieces all p last
goes_round a ((item ∷ word) ∷ pieces) ((q, first, meet, on), all) p last =
    (q, inr (last, first), meet, then a q word (join pieces) on (goes_round a pieces all))

-- what the automaton of a star accepts is words one after the other
pub star_only : (a : Automaton) (word : Word) → Accepts (of_star a) word
    → (pieces : List Word) × (word ≡ join pieces) × AllByRecursion (Accepts a) pieces
star_only a [] nullable = ([], refl, tt)
star_only a (item ∷ word) (p, first, meet, on) =
    let rest = ends_and_begins a p word on in
    ((item ∷ rest.0) ∷ rest.1, ap (λ w. item ∷ w) rest.2, ((p, first, meet, rest.3), rest.4))

-- and all such words are accepted, the empty ones dropped
pub star_each : (a : Automaton) (pieces : List Word) → AllByRecursion (Accepts a) pieces
    → Accepts (of_star a) (join pieces)
star_each a [] all = refl
star_each a ([] ∷ pieces) (nullable, all) = star_each a pieces all
star_each a ((item ∷ word) ∷ pieces) ((p, first, meet, on), all) =
    (p, first, meet, then a p word (join pieces) on (goes_round a pieces all))
