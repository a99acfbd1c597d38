-- How the places in rows, or those that they lack, are put into a set.
use Rattle.std.proofs.Common.{◌≡◌, ℕ, ◌+◌, ◌*◌, ◌/◌, ◌%◌, ◌<◌, ◌↔◌, ◌⊎◌, List, arith, bit_and, inl}
use Rattle.std.proofs.Common.{inr, slice_index}
use Rattle.std.specs.Int.{bit_at}
use Rattle.std.proofs.lemmas.Bool.{cases_lt}
use Rattle.std.proofs.lemmas.Bool.Decides.{eqb_tells}
use Rattle.rate_expr.specs.Sets.{Has, IsLowest}
use Rattle.rate_expr.proofs.MaskMembers.{has_zero}
use Rattle.rate_expr.proofs.MaskSets.{has-and_both}
use Rattle.rate_equal.specs.Holding.{HasRow}
use Rattle.rate_equal.specs.PlaceSets.{AddsBlock, HasPlace, KeepsPlaces, block_count}
use Rattle.rate_equal.specs.Reach.{max_reach}
use Rattle.rate_equal.proofs.Holding.{low_or_left}

module _ (start : List ℕ) (wants : ℕ → Type 0) where
  -- the set has the places that it had, and those that are wanted of the blocks below one
  pub record IsFilling (block : ℕ) (places : List ℕ) : Type 0 where
    pub kept : KeepsPlaces start places
    pub has : (place : ℕ) → place / 128 < block → wants place → HasPlace places place

  -- of no block
  pub filling_begun : IsFilling 0 start
  filling_begun = record {
    kept = λ place has. has;
    has = λ place lt wanted. absurd (omega (arith, lt));
  }

  -- of one block more
  pub filling_next : (block mask : ℕ) (places places' : List ℕ) → IsFilling block places
      → AddsBlock places places' block mask
      → ((place : ℕ) → place / 128 ≡ block → wants place → Has mask (place % 128))
      → IsFilling (block + 1) places'
  filling_next block mask places places' before adds in_mask = record {
    kept = λ place was. (adds place).1 (inl (before.kept place was));
    has = λ place lt wanted. elim (cases_lt (place / 128) block) [
      | inl less ↦ (adds place).1 (inl (before.has place less wanted))
      | inr most ↦
          let here : place / 128 ≡ block = omega arith in
          (adds place).1 (inr (here, in_mask place here wanted))
    ];
  }

  -- of all blocks
  pub filling_all : (places : List ℕ) → IsFilling block_count places → (place : ℕ)
      → place < max_reach → wants place → HasPlace places place
  filling_all places all place lt wanted = all.has place (omega arith) wanted

module _ (start : List ℕ) (mask : ℕ) (wants : ℕ → ℕ → Type 0) where
  -- the set has the places that it had, and those that are wanted of positions, but for the
  -- positions that are left
  pub record IsFillingRows (rest : ℕ) (places : List ℕ) : Type 0 where
    pub left : (position : ℕ) → Has rest position → Has mask position
    pub kept : KeepsPlaces start places
    pub has : (position place : ℕ) → Has mask position → place < max_reach → wants position place
        → Has rest position ⊎ HasPlace places place

  -- all are left
  pub rows_left : IsFillingRows mask start
  rows_left = record {
    left = λ position has. has;
    kept = λ place has. has;
    has = λ position place on lt wanted. inl on;
  }

  -- the lowest of them
  pub rows_lowest : (rest low after : ℕ) (places places' : List ℕ) → IsFillingRows rest places
      → IsLowest rest low
      → ((other : ℕ) → Has after other ↔ (Has rest other × (IsLowest rest other → ⊥)))
      → KeepsPlaces places places'
      → ((place : ℕ) → place < max_reach → wants low place → HasPlace places' place)
      → IsFillingRows after places'
  rows_lowest rest low after places places' before is exact keeps has_low = record {
    left = λ position has. before.left position ((exact position).0 has).0;
    kept = λ place was. keeps place (before.kept place was);
    has = λ position place on lt wanted. elim (before.has position place on lt wanted) [
      | inr there ↦ inr (keeps place there)
      | inl waits ↦ elim (low_or_left rest low after position is exact waits) [
        | inl lowest ↦ inr (has_low place lt (rw lowest at wanted))
        | inr still ↦ inl still
      ]
    ];
  }

  -- none is left
  pub rows_done : (places : List ℕ) → IsFillingRows 0 places → (position place : ℕ)
      → Has mask position → place < max_reach → wants position place → HasPlace places place
  rows_done places all position place on lt wanted = elim (all.has position place on lt wanted) [
    | inl waits ↦ absurd (has_zero position waits)
    | inr there ↦ there
  ]

-- a place is in a row or is not
row_decides : (rows : List ℕ) (position place : ℕ)
    → HasRow rows position place ⊎ (HasRow rows position place → ⊥)
row_decides rows position place =
    elim (eqb_tells (bit_at (slice_index rows (position * block_count + place / 128)) (place % 128))
    1) [
      | inl (test, one) ↦ inl (record { bit = one })
      | inr (test, none) ↦ inr (λ row. none row.bit)
    ]

-- and in a set or is not
pub place_decides : (places : List ℕ) (place : ℕ)
    → HasPlace places place ⊎ (HasPlace places place → ⊥)
place_decides places place =
    elim (eqb_tells (bit_at (slice_index places (place / 128)) (place % 128)) 1) [
      | inl (test, one) ↦ inl (record { bit = one })
      | inr (test, none) ↦ inr (λ has. none has.bit)
    ]

-- what has other positions on the ways than the mask is in a row of those that it lacks, or lacks
-- one of those that it has
pub unlike_there : (rows : List ℕ) (ways mask apart : ℕ) (places places' : List ℕ)
    → ((position : ℕ) → Has apart position ↔ (Has ways position × (Has mask position → ⊥)))
    → ((position place : ℕ) → Has apart position → place < max_reach → HasRow rows position place
    → HasPlace places place)
    → KeepsPlaces places places'
    → ((position place : ℕ) → Has (bit_and ways mask) position → place < max_reach
    → (HasRow rows position place → ⊥) → HasPlace places' place)
    → (position place : ℕ) → Has ways position → place < max_reach
    → HasPlace places' place ⊎ (Has mask position ↔ HasRow rows position place)
unlike_there rows ways mask apart places places' exact holds keeps lacks position place on lt =
    elim (eqb_tells (bit_at mask position) 1) [
      | inl (test, one) ↦ elim (row_decides rows position place) [
        | inl row ↦ inr (λ is. row, λ is. one)
        | inr none ↦ inl (lacks position place (has-and_both ways mask position on one) lt none)
      ]
      | inr (test, none) ↦ elim (row_decides rows position place) [
        | inl row ↦ inl (keeps place (holds position place ((exact position).1 (on, none)) lt row))
        | inr missed ↦ inr (λ is. absurd (none is), λ row. absurd (missed row))
      ]
    ]
