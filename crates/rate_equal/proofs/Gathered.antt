-- How letters are gathered.
use Rattle.std.proofs.Common.{◌≡◌, ℕ, ◌+◌, ◌<◌, Bool, true, List, [], ◌∷◌, ◌++◌, sym, subst, inl}
use Rattle.std.proofs.Common.{inr, arith, All}
use Rattle.std.specs.List.{Contains, IsDistinct, list_any}
use Rattle.std.proofs.lemmas.Bool.{cases_lt}
use Rattle.std.proofs.lemmas.List.Elements.{All-push, Contains-append_left, Contains-push}
use Rattle.std.specs.List.Sorted.{IsPermutation}
use Rattle.std.proofs.lemmas.List.Sorted.{All-permutation, Contains-permutation}
use Rattle.predicate_cells.specs.Cells.{cell_count}
use Rattle.symbolic_nfa.specs.Automata.{Automaton}
use Rattle.symbolic_nfa.specs.States.{IsMetBy}
use Rattle.rate_equal.specs.Letters.{AreLetters, AreMetBy, HasThese, IsGathered, IsLetter}
use Rattle.rate_equal.specs.declared.letters.Letter.{Letter}
use Rattle.indexmap.specs.IndexSet.{insert_key}
use Rattle.indexmap.proofs.CallerLemmas.{Contains-list_any, Contains-insert_key}
use Rattle.rate_equal.proofs.Inserted.{put_after}

module _ (first second : Automaton) where
  module _ (eq : ℕ × ℕ → ℕ × ℕ → Bool) (cell : ℕ) (known known' : List (ℕ × ℕ))
      (letters : List Letter) (met : ℕ × ℕ) (distinct : IsDistinct eq known')
      (put_in : known' ≡ insert_key eq known met) (same : (x y : ℕ × ℕ) → eq x y ≡ true → x ≡ y)
      (before : IsGathered first second cell known letters)
      (here : AreMetBy first second cell met) where
    -- one more cell, for whose masks some letter stands
    gathered_next : (letters' : List Letter) → All (IsLetter first second) letters'
        → ((letter : Letter) → Contains letters letter → Contains letters' letter)
        → (letter : Letter) × Contains letters' letter × HasThese letter met
        → IsGathered first second (cell + 1) known' letters'
    gathered_next letters' sound kept one =
        let put = put_after eq known met in
        subst (λ l. IsGathered first second (cell + 1) l letters') (sym put_in) record {
          sound = sound;
          stands = λ other c. elim (put.2 other c) [
            | inl was ↦ let old = before.stands other was in (old.0, kept old.0 old.1, old.2)
            | inr is ↦ subst
                (λ m. (letter : Letter) × Contains letters' letter × HasThese letter m) is one
          ];
          below = λ other lt. elim (cases_lt other cell) [
            | inl less ↦ let old = before.below other less in (
              old.0,
              subst (λ l. Contains l old.0) (sym put.1)
                  (Contains-append_left known put.0 old.0 old.1),
              old.2,
            )
            | inr most ↦ let is : other ≡ cell = omega arith in (
              met,
              Contains-insert_key eq same known met,
              subst (λ (c : ℕ). AreMetBy first second c met) (sym is) here,
            )
          ];
        }

    -- its masks are known
    pub gathered_known : list_any (eq met) known ≡ true
        → IsGathered first second (cell + 1) known' letters
    gathered_known is = gathered_next letters before.sound (λ letter c. c)
        (before.stands met (Contains-list_any eq same known met is))

    -- it has a letter of its own
    pub gathered_new : (letter : Letter) → HasThese letter met → cell < cell_count first.cells
        → IsGathered first second (cell + 1) known' (letters ++ letter ∷ [])
    gathered_new letter has lt = gathered_next (letters ++ letter ∷ [])
        (All-push (IsLetter first second) letters letter before.sound (
          cell,
          lt,
          (
            subst (λ (m : ℕ). IsMetBy first cell m) (sym has.0) here.0,
            subst (λ (m : ℕ). IsMetBy second cell m) (sym has.1) here.1,
          ),
        ))
        (λ other c. Contains-append_left letters (letter ∷ []) other c)
        (letter, Contains-push letters letter, has)

  -- all cells
  pub gathered_all : first.cells ≡ second.cells → (known : List (ℕ × ℕ)) (letters : List Letter)
      → IsGathered first second (cell_count first.cells) known letters
      → AreLetters first second letters
  gathered_all same known letters all = record {
    same = same;
    sound = all.sound;
    whole = λ cell lt.
        let (met, c, (one, two)) = all.below cell lt in
        let (letter, c', (has, has')) = all.stands met c in (
          letter,
          c',
          (
            subst (λ (m : ℕ). IsMetBy first cell m) (sym has) one,
            subst (λ (m : ℕ). IsMetBy second cell m) (sym has') two,
          ),
        );
  }

-- in whatever order
pub letters_moved : (first second : Automaton) (letters letters' : List Letter)
    → IsPermutation letters letters' → AreLetters first second letters
    → AreLetters first second letters'
letters_moved first second letters letters' moved are = record {
  same = are.same;
  sound = All-permutation (IsLetter first second) letters letters' moved are.sound;
  whole = λ cell lt. let (letter, c, of) = are.whole cell lt in
      (letter, Contains-permutation letters letters' letter moved c, of);
}
