-- Positions that have the same row, and what that says of letters.
use Rattle.std.proofs.Common.{◌≡◌, ℕ, ◌+◌, ◌*◌, ◌/◌, ◌%◌, ◌<◌, ◌≤◌, ◌∙◌, ◌↔◌, ◌⊎◌, List, get_or}
use Rattle.std.proofs.Common.{length, replicate, set, slice_index, ap, arith, sym, subst, inl, inr}
use Rattle.std.proofs.lemmas.Bool.Decides.{eqb_tells}
use Rattle.std.proofs.lemmas.List.{get_or-set_same, get_or-set_other}
use Rattle.std.proofs.lemmas.Option.{slice_get_within}
use Rattle.std.specs.List.{Contains}
use Rattle.rate_expr.specs.Sets.{Has, IsLowest}
use Rattle.rate_expr.proofs.MaskMembers.{has_zero}
use Rattle.rate_equal.specs.Holding.{AreRows, AreTwins, HasRow, HaveSameRow}
use Rattle.rate_equal.specs.PlaceSets.{block_count}
use Rattle.rate_equal.specs.Reach.{max_reach}
use Rattle.rate_equal.specs.declared.letters.Letter.{Letter}
use Rattle.rate_equal.proofs.Finding.{stands_at}
use Rattle.rate_equal.proofs.Holding.{low_or_left}
use Rattle.rate_equal.proofs.PlaceSets.{zero_there}

-- rows of which all blocks are the same are the same
pub same_row : (first second : List ℕ) (one other : ℕ)
    → ((block : ℕ) → block < block_count
    → get_or first (one * block_count + block) 0 ≡ get_or second (other * block_count + block) 0)
    → HaveSameRow first second one other
same_row first second one other same place lt =
    let here = same (place / 128) (omega arith) in (
      λ row. record { bit = subst (λ (m : ℕ). Has m (place % 128)) here row.bit },
      λ row. record { bit = subst (λ (m : ℕ). Has m (place % 128)) (sym here) row.bit },
    )

-- masks of no positions have twins alone
pub twins_begun : (first second : List ℕ) (count : ℕ) → AreTwins first second (replicate count 0)
twins_begun first second count position twin has =
    absurd (has_zero twin (subst (λ (m : ℕ). Has m twin) (zero_there count position) has))

-- and so do others where one was put that has twins alone
pub twins_next : (first second twins : List ℕ) (at mask : ℕ) → at < length twins
    → AreTwins first second twins → ((twin : ℕ) → Has mask twin → HaveSameRow first second twin at)
    → AreTwins first second (set twins at mask)
twins_next first second twins at mask within before same position twin has =
    elim (eqb_tells position at) [
      | inl here ↦
          let now : get_or (set twins at mask) position 0 ≡ mask =
          ap (λ (i : ℕ). get_or (set twins at mask) i 0) here.1
          ∙ get_or-set_same twins at mask 0 within in
          subst (λ (p : ℕ). HaveSameRow first second twin p) (sym here.1)
          (same twin (subst (λ (m : ℕ). Has m twin) now has))
      | inr apart ↦ before position twin
          (subst (λ (m : ℕ). Has m twin) (get_or-set_other twins at position mask 0 apart.1) has)
    ]

module _ (first second : List ℕ) (letters : List Letter)
    (in_first : AreRows (λ l. l.first) first letters (length letters))
    (in_second : AreRows (λ l. l.second) second letters (length letters))
    (few : length letters ≤ max_reach) (twin position : ℕ)
    (same : HaveSameRow first second twin position) where
  -- a letter has a position where it has its twin
  pub letter_twin : (letter : Letter) → Contains letters letter
      → Has letter.second position ↔ Has letter.first twin
  letter_twin letter c = let (place, at) = stands_at letters letter c in
      let within = slice_get_within letters place letter at in
      let below : place < max_reach = omega (arith, within, few) in (
        λ has. (in_first.only place twin letter below at
            ((same place below).1 (in_second.has place position letter within at has))).1,
        λ has. (in_second.only place position letter below at
            ((same place below).0 (in_first.has place twin letter within at has))).1,
      )

  -- so where a place is in the row of the twin exactly where the letter has it, the same holds
  -- of the position
  pub alike_twin : (letter : Letter) → Contains letters letter → (place : ℕ) → place < max_reach
      → (Has letter.first twin ↔ HasRow first twin place)
      → Has letter.second position ↔ HasRow second position place
  alike_twin letter c place lt alike = let both = letter_twin letter c in (
    λ has. (same place lt).0 (alike.0 (both.0 has)),
    λ row. both.1 (alike.1 ((same place lt).1 row)),
  )

module _ (twins : List ℕ) (first second : ℕ) where
  -- some position of the first mask is a twin
  abbrev pub HasTwin : ℕ → Type 0
  HasTwin position = (twin : ℕ) × Has first twin × Has (slice_index twins position) twin

  -- each position of the second mask is left, or was found, or has a twin
  pub record IsSorting (rest found : ℕ) : Type 0 where
    pub left : (position : ℕ) → Has rest position → Has second position
    pub sorted : (position : ℕ) → Has second position
        → Has rest position ⊎ (Has found position ⊎ HasTwin position)

  -- all are left
  pub sorting_begun : IsSorting second 0
  sorting_begun = record { left = λ position has. has; sorted = λ position has. inl has }

  -- the lowest is found, or has a twin
  pub sorting_next : (rest after found found' low : ℕ) → IsSorting rest found → IsLowest rest low
      → ((other : ℕ) → Has after other ↔ (Has rest other × (IsLowest rest other → ⊥)))
      → ((position : ℕ) → Has found position → Has found' position)
      → Has found' low ⊎ HasTwin low → IsSorting after found'
  sorting_next rest after found found' low before is exact kept lowest = record {
    left = λ position has. before.left position ((exact position).0 has).0;
    sorted = λ position has. elim (before.sorted position has) [
      | inr (inl there) ↦ inr (inl (kept position there))
      | inr (inr twin) ↦ inr (inr twin)
      | inl waits ↦ elim (low_or_left rest low after position is exact waits) [
        | inr still ↦ inl still
        | inl here ↦ inr (subst (λ (p : ℕ). Has found' p ⊎ HasTwin p) (sym here) lowest)
      ]
    ];
  }

  -- none is left
  pub sorting_all : (found : ℕ) → IsSorting 0 found → (position : ℕ) → Has second position
      → Has found position ⊎ HasTwin position
  sorting_all found all position has = elim (all.sorted position has) [
    | inl waits ↦ absurd (has_zero position waits)
    | inr is ↦ is
  ]
