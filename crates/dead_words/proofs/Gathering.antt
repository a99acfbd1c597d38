-- How letters are gathered, cell by cell.
use Rattle.std.proofs.Common.{◌≡◌, ℕ, ◌+◌, ◌<◌, List, [], ◌∷◌, ◌++◌, sym, subst, inl, inr, arith}
use Rattle.std.specs.List.{All, Contains}
use Rattle.std.proofs.lemmas.Bool.{cases_lt}
use Rattle.std.proofs.lemmas.List.Elements.{All-push, Contains-append_left, Contains-push}
use Rattle.predicate_cells.specs.Cells.{cell_count}
use Rattle.symbolic_nfa.specs.Automata.{Automaton}
use Rattle.symbolic_nfa.specs.States.{IsMetBy}
use Rattle.dead_words.specs.Known.{IsPut}
use Rattle.dead_words.specs.Letters.{AreGathered, AreLetters, IsLetter}
use Rattle.dead_words.specs.declared.letters.Letter.{Letter}

module _ (nfa : Automaton) (cell : ℕ) (known known' : List ℕ) (letters : List Letter) (met : ℕ)
    (put : IsPut known known' met) (before : AreGathered nfa cell known letters)
    (here : IsMetBy nfa cell met) where
  -- one more cell, for whose positions some letter stands
  gathered_next : (letters' : List Letter) → All (IsLetter nfa) letters'
      → ((letter : Letter) → Contains letters letter → Contains letters' letter)
      → (letter : Letter) × Contains letters' letter × (letter.met ≡ met)
      → AreGathered nfa (cell + 1) known' letters'
  gathered_next letters' each kept one = record {
    each = each;
    stands = λ other c. elim (put.only other c) [
      | inl was ↦ let old = before.stands other was in (old.0, kept old.0 old.1, old.2)
      | inr is ↦ subst (λ (m : ℕ). (letter : Letter) × Contains letters' letter
          × (letter.met ≡ m)) is one
    ];
    below = λ other lt. elim (cases_lt other cell) [
      | inl less ↦ let old = before.below other less in (old.0, put.kept old.0 old.1, old.2)
      | inr most ↦
          let is : other ≡ cell = omega arith in
          (met, put.has, subst (λ (c : ℕ). IsMetBy nfa c met) (sym is) here)
    ];
  }

  -- its positions are known
  pub gathered_known : Contains known met → AreGathered nfa (cell + 1) known' letters
  gathered_known is = gathered_next letters before.each (λ letter c. c) (before.stands met is)

  -- it has a letter of its own
  pub gathered_new : (letter : Letter) → letter.met ≡ met → letter.cell ≡ cell
      → cell < cell_count nfa.cells
      → AreGathered nfa (cell + 1) known' (letters ++ letter ∷ [])
  gathered_new letter is at lt = gathered_next (letters ++ letter ∷ [])
      (All-push (IsLetter nfa) letters letter before.each (record {
        cell = subst (λ (c : ℕ). c < cell_count nfa.cells) (sym at) lt;
        met = subst (λ (m : ℕ). IsMetBy nfa letter.cell m) (sym is)
            (subst (λ (c : ℕ). IsMetBy nfa c met) (sym at) here);
      }))
      (λ other c. Contains-append_left letters (letter ∷ []) other c)
      (letter, Contains-push letters letter, is)

-- all cells
pub gathered_all : (nfa : Automaton) (known : List ℕ) (letters : List Letter)
    → AreGathered nfa (cell_count nfa.cells) known letters → AreLetters nfa letters
gathered_all nfa known letters all = record {
  each = all.each;
  whole = λ cell lt.
      let below = all.below cell lt in
      let stands = all.stands below.0 below.1 in
      (stands.0, stands.1, subst (λ (m : ℕ). IsMetBy nfa cell m) (sym stands.2) below.2);
}
