-- How letters are gathered, cell by cell.
use Rattle.std.proofs.Common.{◌≡◌, ℕ, ◌+◌, ◌<◌, List, [], ◌∷◌, ◌++◌, sym, subst, inl, inr, arith}
use Rattle.std.specs.List.{Contains}
use Rattle.std.proofs.lemmas.Bool.{cases_lt}
use Rattle.std.proofs.lemmas.List.Elements.{All-push, Contains-append_left, Contains-push}
use Rattle.predicate_cells.specs.Cells.{cell_count}
use Rattle.symbolic_nfa.specs.States.{IsMetBy}
use Rattle.separating_word.specs.Known.{IsPut}
use Rattle.separating_word.specs.Letters.{AreGathered, AreLetters, AreMetBy, AreOfCells}
use Rattle.separating_word.specs.declared.automata.Automata.{Automata}
use Rattle.separating_word.specs.declared.letters.Letter.{Letter}

module _ (automata : Automata) (cell : ℕ) (known known' : List (ℕ × ℕ)) (letters : List Letter)
    (masks : ℕ × ℕ) (put : IsPut known known' masks)
    (before : AreGathered automata cell known letters) (here : AreMetBy automata cell masks) where
  -- one more cell, for whose masks some letter stands
  gathered_next : (letters' : List Letter) → AreOfCells automata letters'
      → ((letter : Letter) → Contains letters letter → Contains letters' letter)
      → (letter : Letter) × Contains letters' letter × (letter.left ≡ masks.0)
      × (letter.right ≡ masks.1) → AreGathered automata (cell + 1) known' letters'
  gathered_next letters' cells kept one = record {
    cells = cells;
    stands = λ other c. elim (put.only other c) [
      | inl was ↦ let old = before.stands other was in (old.0, kept old.0 old.1, old.2, old.3)
      | inr is ↦ subst (λ (m : ℕ × ℕ). (letter : Letter) × Contains letters' letter
          × (letter.left ≡ m.0) × (letter.right ≡ m.1)) is one
    ];
    below = λ other lt. elim (cases_lt other cell) [
      | inl less ↦ let old = before.below other less in (old.0, put.kept old.0 old.1, old.2)
      | inr most ↦
          let is : other ≡ cell = omega arith in
          (masks, put.has, subst (λ (c : ℕ). AreMetBy automata c masks) (sym is) here)
    ];
  }

  -- its masks are known
  pub gathered_known : Contains known masks → AreGathered automata (cell + 1) known' letters
  gathered_known is = gathered_next letters before.cells (λ letter c. c) (before.stands masks is)

  -- it has a letter of its own
  pub gathered_new : (letter : Letter) → letter.left ≡ masks.0 → letter.right ≡ masks.1
      → letter.cell < cell_count automata.left.cells
      → AreGathered automata (cell + 1) known' (letters ++ letter ∷ [])
  gathered_new letter left right lt = gathered_next (letters ++ letter ∷ [])
      (All-push (λ letter. letter.cell < cell_count automata.left.cells) letters letter
      before.cells lt)
      (λ other c. Contains-append_left letters (letter ∷ []) other c)
      (letter, Contains-push letters letter, left, right)

-- all cells
pub gathered_all : (automata : Automata) (known : List (ℕ × ℕ)) (letters : List Letter)
    → AreGathered automata (cell_count automata.left.cells) known letters
    → AreLetters automata letters
gathered_all automata known letters all = record {
  cells = all.cells;
  whole = λ cell lt.
      let below = all.below cell lt in
      let stands = all.stands below.0 below.1 in (
        stands.0,
        stands.1,
        (
          subst (λ (m : ℕ). IsMetBy automata.left cell m) (sym stands.2) below.2.0,
          subst (λ (m : ℕ). IsMetBy automata.right cell m) (sym stands.3) below.2.1,
        ),
      );
}
