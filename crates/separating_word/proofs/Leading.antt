-- Where items lead, by letters.
use Rattle.std.proofs.Common.{◌≡◌, ◌∙◌, ℕ, ◌<◌, ◌+◌, List, length, get_or, bit_and, refl, sym, ap}
use Rattle.std.proofs.Common.{subst, inl, inr, arith}
use Rattle.std.specs.List.{Contains}
use Rattle.std.proofs.lemmas.Bool.{cases_lt}
use Rattle.std.proofs.lemmas.List.{get_or_default}
use Rattle.std.proofs.lemmas.List.Elements.{All-contains}
use Rattle.std.proofs.lemmas.Nat.{and_le_l}
use Rattle.predicate_cells.specs.Cells.{Partition, cell_of, IsIn}
use Rattle.predicate_cells.proofs.CellsBelow.{cell_below}
use Rattle.rate_expr.specs.declared.state.State.{State}
use Rattle.symbolic_nfa.specs.States.{AreWaysOn}
use Rattle.symbolic_nfa.proofs.StatesOn.{steps_to-and}
use Rattle.separating_word.specs.Known.{IsPut}
use Rattle.separating_word.specs.Letters.{AreLetters, target}
use Rattle.separating_word.specs.Pairs.{ShareCells}
use Rattle.separating_word.specs.Searched.{LeadIntoKnown}
use Rattle.separating_word.specs.declared.automata.Automata.{Automata}
use Rattle.separating_word.specs.declared.letters.Letter.{Letter}

module _ (automata : Automata) (shared : ShareCells automata) (letters : List Letter)
    (are : AreLetters automata letters) (left right : State) (ways : ℕ × ℕ)
    (on_left : AreWaysOn automata.left.sets left ways.0)
    (on_right : AreWaysOn automata.right.sets right ways.1) where
  -- each item leads where some letter does
  pub lead_into_known : (known : List (ℕ × ℕ))
      → ((k : ℕ) (d : Letter) → k < length letters
      → Contains known (target ways (get_or letters k d)))
      → LeadIntoKnown automata known left right
  lead_into_known known all item is =
      let cell = cell_of automata.left.cells item in
      let found = are.whole cell (cell_below automata.left.cells item) in
      let letter = found.0 in (
        target ways letter,
        All-contains (λ letter. Contains known (target ways letter)) letters letter all found.1,
        steps_to-and automata.left.sets automata.left.cells left cell ways.0
            letter.left item on_left found.2.0 (is, refl),
        steps_to-and automata.right.sets automata.right.cells right cell ways.1 letter.right item
            on_right found.2.1 (subst (λ (cs : Partition). IsIn cs cell item) shared (is, refl)),
      )

-- what ways on have in common with a mask is within the positions
pub within_ways : (ways mask bound : ℕ) → ways < bound → bit_and ways mask < bound
within_ways ways mask bound less = omega (arith, and_le_l ways mask)

-- what holds of each below an index, and there, holds of one more
pub one_further : {A : Type 0} (P : A → Type 0) (xs : List A) (i : ℕ) (e : A)
    → ((k : ℕ) (d : A) → k < i → P (get_or xs k d)) → i < length xs → e ≡ get_or xs i e → P e
    → (k : ℕ) (d : A) → k < i + 1 → P (get_or xs k d)
one_further P xs i e below within is here k d lt = elim (cases_lt k i) [
  | inl less ↦ below k d less
  | inr most ↦
      let same : k ≡ i = omega arith in
      subst P (is ∙ get_or_default xs i e d within ∙ ap (λ (j : ℕ). get_or xs j d) (sym same)) here
]

-- one letter more leads to what is known
pub led_next : (letters : List Letter) (ways : ℕ × ℕ) (known known' : List (ℕ × ℕ)) (i : ℕ)
    (letter : Letter) (masks : ℕ × ℕ) → IsPut known known' masks → i < length letters
    → letter ≡ get_or letters i letter → masks ≡ target ways letter
    → ((k : ℕ) (d : Letter) → k < i → Contains known (target ways (get_or letters k d)))
    → (k : ℕ) (d : Letter) → k < i + 1 → Contains known' (target ways (get_or letters k d))
led_next letters ways known known' i letter masks put within is leads before =
    one_further (λ letter. Contains known' (target ways letter)) letters i letter
    (λ k d less. put.kept (target ways (get_or letters k d)) (before k d less)) within is
    (subst (λ (m : ℕ × ℕ). Contains known' m) leads put.has)

-- what holds of each holds of the one at an index
pub holds_at : {A : Type 0} (P : A → Type 0) (xs : List A) (i : ℕ) (e : A)
    → ((k : ℕ) (d : A) → k < length xs → P (get_or xs k d)) → i < length xs
    → e ≡ get_or xs i e → P e
holds_at P xs i e all within is = subst P (sym is) (all i e within)
