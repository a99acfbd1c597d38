-- How letters are entered into rows, and distinguished by these.
use Rattle.std.proofs.Common.{◌≡◌, ℕ, ◌+◌, ◌*◌, ◌/◌, ◌%◌, ◌<◌, ◌≤◌, ◌∙◌, ◌↔◌, ◌⊎◌, List, Some}
use Rattle.std.proofs.Common.{bit_and, get_or, length, replicate, slice_get, ap, arith, sym, subst}
use Rattle.std.proofs.Common.{inl, inr}
use Rattle.std.proofs.lemmas.Bool.{cases_lt}
use Rattle.std.proofs.lemmas.Bool.Decides.{eqb_tells}
use Rattle.std.proofs.lemmas.Option.{same_Some, slice_get-get_or, slice_get_within}
use Rattle.rate_expr.specs.Sets.{Has}
use Rattle.rate_expr.specs.declared.state.State.TheVariants.{At}
use Rattle.rate_expr.proofs.MaskMembers.{has_zero}
use Rattle.rate_expr.proofs.MaskSets.{has-and, has-and_both, same-has}
use Rattle.rate_equal.specs.Holding.{AreRows, HasRow, KeepsRows}
use Rattle.rate_equal.specs.PlaceSets.{HasPlace, KeepsBlock, block_count}
use Rattle.rate_equal.specs.Reach.{max_reach}
use Rattle.rate_equal.specs.Targets.{target}
use Rattle.rate_equal.specs.declared.letters.Letter.{Letter}
use Rattle.rate_equal.proofs.Filling.{place_decides}
use Rattle.rate_equal.proofs.PlaceSets.{zero_there}

-- what a list without the letter would give
abbrev pub no_letter : Letter
no_letter = record { missed = 0; first = 0; second = 0 }

-- the letter below the end of a list
pub letter_at : (letters : List Letter) (place : ℕ) → place < length letters
    → slice_get letters place ≡ Some (get_or letters place no_letter)
letter_at letters place within = slice_get-get_or letters place no_letter within

module _ (mask : Letter → ℕ) (letters : List Letter) where
  -- none is in rows of zeros
  pub rows_begun : (count : ℕ) → AreRows mask (replicate count 0) letters 0
  rows_begun count = record {
    has = λ place position letter lt found has. absurd (omega (arith, lt));
    only = λ place position letter lt found row. absurd (has_zero (place % 128)
        (subst (λ (m : ℕ). Has m (place % 128))
        (zero_there count (position * block_count + place / 128)) row.bit));
  }

  -- one more letter
  pub rows_next : (rows rows' : List ℕ) (place : ℕ) (letter : Letter)
      → AreRows mask rows letters place → slice_get letters place ≡ Some letter
      → KeepsRows rows rows'
      → ((position : ℕ) → Has (mask letter) position → HasRow rows' position place)
      → ((position other : ℕ) → other < max_reach → HasRow rows' position other
      → HasRow rows position other ⊎ ((place ≡ other) × Has (mask letter) position))
      → AreRows mask rows' letters (place + 1)
  rows_next rows rows' place letter before found kept held only = record {
    has = λ other position letter' lt found' has. elim (cases_lt other place) [
      | inl less ↦ kept position other (before.has other position letter' less found' has)
      | inr most ↦
          let here : place ≡ other = omega arith in
          subst (λ (p : ℕ). HasRow rows' position p) here
          (held position
          (subst (λ (l : Letter). Has (mask l) position) (same other letter' found' here) has))
    ];
    only = λ other position letter' lt found' row. elim (only position other lt row) [
      | inl was ↦ let (less, has) = before.only other position letter' lt found' was in
          (omega (arith, less), has)
      | inr (here, has) ↦ (
        omega (arith, here),
        subst (λ (l : Letter). Has (mask l) position) (sym (same other letter' found' here)) has,
      )
    ];
  }
    where
      same : (other : ℕ) (letter' : Letter) → slice_get letters other ≡ Some letter' → place ≡ other
          → letter' ≡ letter
      same other letter' found' here = same_Some letter' letter
          (sym found' ∙ subst (λ (p : ℕ). slice_get letters p ≡ Some letter) here found)

-- masks that have the same positions on the ways have the same in common with them
pub same_on : (ways met met' : ℕ)
    → ((position : ℕ) → Has ways position → Has met position ↔ Has met' position)
    → bit_and ways met ≡ bit_and ways met'
same_on ways met met' same = same-has (bit_and ways met) (bit_and ways met') (λ position. (
  λ has. let both = has-and ways met position has in
      has-and_both ways met' position both.0 ((same position both.0).0 both.1),
  λ has. let both = has-and ways met' position has in
      has-and_both ways met position both.0 ((same position both.0).1 both.1),
))

-- a letter that is in the same rows of the ways as another leads where that one does
pub same_target : (first second : List ℕ) (letters : List Letter) (ways : ℕ × ℕ)
    (letter other : Letter) (places : List ℕ) (place : ℕ)
    → AreRows (λ l. l.first) first letters (length letters)
    → AreRows (λ l. l.second) second letters (length letters)
    → length letters ≤ max_reach → slice_get letters place ≡ Some other
    → ((position : ℕ) → Has ways.0 position → place < max_reach
    → HasPlace places place ⊎ (Has letter.first position ↔ HasRow first position place))
    → ((position : ℕ) → Has ways.1 position → place < max_reach
    → HasPlace places place ⊎ (Has letter.second position ↔ HasRow second position place))
    → HasPlace places place ⊎ (target ways other ≡ target ways letter)
same_target first second letters ways letter other places place in_first in_second few
    found alike alike' =
    elim (place_decides places place) [
      | inl has ↦ inl has
      | inr none ↦ inr (λ j. record {
        first = ap At (same_on ways.0 other.first letter.first
            (λ position on. elim (alike position on below) [
              | inl has ↦ absurd (none has)
              | inr is ↦ (
                λ has. is.1 (in_first.has place position other within found has),
                λ has. (in_first.only place position other below found (is.0 has)).1,
              )
            ])) j;
        second = ap At (same_on ways.1 other.second letter.second
            (λ position on. elim (alike' position on below) [
              | inl has ↦ absurd (none has)
              | inr is ↦ (
                λ has. is.1 (in_second.has place position other within found has),
                λ has. (in_second.only place position other below found (is.0 has)).1,
              )
            ])) j;
      })
    ]
  where
    within : place < length letters
    within = slice_get_within letters place other found

    below : place < max_reach
    below = omega (arith, within)

module _ (letters : List Letter) (target_of : Letter → Type 0) (start : List ℕ) where
  -- the places that were taken out of the set are those of letters of a kind
  pub record IsPassing (places : List ℕ) : Type 0 where
    pub kept : (place : ℕ) (other : Letter) → HasPlace start place
        → slice_get letters place ≡ Some other → HasPlace places place ⊎ target_of other

  -- none was
  pub passing_begun : IsPassing start
  passing_begun = record { kept = λ place other has found. inl has }

  -- those of a block
  pub passing_next : (block others : ℕ) (left places places' : List ℕ) → IsPassing places
      → KeepsBlock places places' block others
      → ((place : ℕ) → HasPlace left place → place / 128 ≡ block → Has others (place % 128))
      → ((place : ℕ) (other : Letter) → slice_get letters place ≡ Some other
      → HasPlace left place ⊎ target_of other) → IsPassing places'
  passing_next block others left places places' before keeps bits unlike = record {
    kept = λ place other has found. elim (before.kept place other has found) [
      | inr is ↦ inr is
      | inl there ↦ elim (eqb_tells (place / 128) block) [
        | inl (test, here) ↦ elim (unlike place other found) [
          | inl stays ↦ inl (keeps place there (bits place stays))
          | inr is ↦ inr is
        ]
        | inr (test, apart) ↦ inl (keeps place there (λ same. absurd (apart same)))
      ]
    ];
  }
