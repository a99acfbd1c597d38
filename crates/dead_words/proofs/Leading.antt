-- Where items lead, by letters.
use Rattle.std.proofs.Common.{◌≡◌, ◌∙◌, ℕ, ◌<◌, ◌+◌, List, length, get_or, bit_and, refl, sym, ap}
use Rattle.std.proofs.Common.{subst, inl, inr, arith}
use Rattle.std.specs.List.{Contains}
use Rattle.std.proofs.lemmas.Bool.{cases_lt}
use Rattle.std.proofs.lemmas.List.{get_or_default}
use Rattle.std.proofs.lemmas.List.Elements.{All-contains}
use Rattle.predicate_cells.specs.Cells.{cell_of}
use Rattle.predicate_cells.proofs.CellsBelow.{cell_below}
use Rattle.rate_expr.specs.declared.state.State.{State}
use Rattle.symbolic_nfa.specs.Automata.{Automaton}
use Rattle.symbolic_nfa.specs.States.{AreWaysOn}
use Rattle.symbolic_nfa.proofs.StatesOn.{steps_to-and}
use Rattle.dead_words.specs.Known.{IsPut}
use Rattle.dead_words.specs.Letters.{AreLetters}
use Rattle.dead_words.specs.Searched.{LeadsIntoKnown}
use Rattle.dead_words.specs.declared.letters.Letter.{Letter}

-- each item leads where some letter does
pub leads_into_known : (nfa : Automaton) (letters : List Letter) → AreLetters nfa letters
    → (state : State) (ways : ℕ) → AreWaysOn nfa.sets state ways → (known : List ℕ)
    → ((k : ℕ) (d : Letter) → k < length letters
    → Contains known (bit_and ways (get_or letters k d).met))
    → LeadsIntoKnown nfa known state
leads_into_known nfa letters are state ways on known all item is =
    let cell = cell_of nfa.cells item in
    let found = are.whole cell (cell_below nfa.cells item) in
    let letter = found.0 in (
      bit_and ways letter.met,
      All-contains (λ letter. Contains known (bit_and ways letter.met)) letters letter all found.1,
      steps_to-and nfa.sets nfa.cells state cell ways letter.met item on found.2 (is, refl),
    )

-- what holds of each below an index, and there, holds of one more
pub one_further : {A : Type 0} (P : A → Type 0) (xs : List A) (i : ℕ) (e : A)
    → ((k : ℕ) (d : A) → k < i → P (get_or xs k d)) → i < length xs → e ≡ get_or xs i e → P e
    → (k : ℕ) (d : A) → k < i + 1 → P (get_or xs k d)
one_further P xs i e below within is here k d lt = elim (cases_lt k i) [
  | inl less ↦ below k d less
  | inr most ↦
      let same : k ≡ i = omega arith in
      subst P (is ∙ get_or_default xs i e d within ∙ ap (λ (j : ℕ). get_or xs j d) (sym same)) here
]

-- one letter more leads to what is known
pub led_next : (letters : List Letter) (ways : ℕ) (known known' : List ℕ) (i : ℕ) (letter : Letter)
    (mask : ℕ) → IsPut known known' mask → i < length letters
    → letter ≡ get_or letters i letter → mask ≡ bit_and ways letter.met
    → ((k : ℕ) (d : Letter) → k < i → Contains known (bit_and ways (get_or letters k d).met))
    → (k : ℕ) (d : Letter) → k < i + 1 → Contains known' (bit_and ways (get_or letters k d).met)
led_next letters ways known known' i letter mask put within is leads before =
    one_further (λ letter. Contains known' (bit_and ways letter.met)) letters i letter
    (λ k d less. put.kept (bit_and ways (get_or letters k d).met) (before k d less)) within is
    (subst (λ (m : ℕ). Contains known' m) leads put.has)

-- what holds of each holds of the one at an index
pub holds_at : {A : Type 0} (P : A → Type 0) (xs : List A) (i : ℕ) (e : A)
    → ((k : ℕ) (d : A) → k < length xs → P (get_or xs k d)) → i < length xs
    → e ≡ get_or xs i e → P e
holds_at P xs i e all within is = subst P (sym is) (all i e within)
