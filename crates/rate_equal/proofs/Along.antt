-- One more pair, from which the search goes along its ways on.
use Rattle.std.proofs.Common.{◌≡◌, ◌+◌, ◌⊎◌, ℕ, List, Some, slice_get, subst, sym, inl, inr}
use Rattle.std.specs.List.{Contains}
use Rattle.symbolic_nfa.specs.Automata.{Automaton}
use Rattle.rate_equal.specs.Letters.{AreLetters}
use Rattle.rate_equal.specs.Pairs.{AreWaysOnFrom}
use Rattle.rate_equal.specs.Trails.{GoesAlong}
use Rattle.rate_equal.specs.declared.letters.Letter.{Letter}
use Rattle.rate_equal.specs.declared.pair.Pair.{Pair}
use Rattle.rate_equal.proofs.Exploring.{found_explored}
use Rattle.rate_equal.proofs.Gone.{AreGone, searched_known, searched_new}
use Rattle.rate_equal.proofs.Searched.{IsSearched, reached_at}

module _ (first second : Automaton) (letters : List Letter) (are : AreLetters first second letters)
    (pairs : List Pair) (gone gone' : List (ℕ × ℕ)) (end : ℕ) (from : Pair) (ways : ℕ × ℕ)
    (before : AreGone first second pairs gone) (searched : IsSearched first second pairs end)
    (found : slice_get pairs end ≡ Some from) (here : AreWaysOnFrom first second from ways)
    (more : (other : ℕ × ℕ) → Contains gone' other → Contains gone other ⊎ (ways ≡ other)) where
  -- words continue from the pair, into those to which letters lead
  pub searched_along : (pairs' : List Pair) → GoesAlong letters ways gone pairs pairs'
      → IsSearched first second pairs' (end + 1) × AreGone first second pairs' gone'
  searched_along pairs' (inl (known, same)) =
      subst (λ ps. IsSearched first second ps (end + 1) × AreGone first second ps gone') (sym same)
      (searched_known first second gone gone' ways more pairs before end searched from
      found here known)
  searched_along pairs' (inr (places, targets)) =
      searched_new first second gone gone' ways more pairs before end searched from
      found here pairs' (found_explored first second letters are from ways here
      (reached_at first second pairs end from searched found) pairs searched.reached
      pairs' places targets)
