-- How the places of pairs are put into the rows of their positions, and gathered from these.
use Rattle.std.proofs.Common.{◌≡◌, ℕ, ◌+◌, ◌*◌, ◌/◌, ◌%◌, ◌^◌, ◌<◌, ◌≤◌, ◌∙◌, ◌↔◌, ◌⊎◌, List, Some}
use Rattle.std.proofs.Common.{bit_or, get_or, length, replicate, set, slice_get, sym, ap, subst}
use Rattle.std.proofs.Common.{inl, inr, arith}
use Rattle.std.proofs.lemmas.Bool.{cases_lt}
use Rattle.std.proofs.lemmas.Bool.Decides.{eqb_tells}
use Rattle.std.proofs.lemmas.List.{get_or-set_same, get_or-set_other}
use Rattle.std.proofs.lemmas.Option.{same_Some}
use Rattle.rate_expr.specs.Sets.{Has, IsLowest}
use Rattle.rate_expr.proofs.MaskMembers.{has_first, has_one, has_only_one, has_or, has_second}
use Rattle.rate_expr.proofs.MaskMembers.{has_zero}
use Rattle.rate_equal.specs.Holding.{AreHeld, HasRow, KeepsRows}
use Rattle.rate_equal.specs.Pairs.{IsGrown, mask_of}
use Rattle.rate_equal.specs.PlaceSets.{block_count}
use Rattle.rate_equal.specs.Reach.{max_reach}
use Rattle.rate_equal.specs.declared.pair.Pair.{Pair}
use Rattle.rate_equal.proofs.Added.{found_before}
use Rattle.rate_equal.proofs.PlaceSets.{zero_there}

-- a position that is left is the lowest, or is left after it
pub low_or_left : (rest low after position : ℕ) → IsLowest rest low
    → ((other : ℕ) → Has after other ↔ (Has rest other × (IsLowest rest other → ⊥)))
    → Has rest position → (position ≡ low) ⊎ Has after position
low_or_left rest low after position is exact has = elim (eqb_tells position low) [
  | inl here ↦ inl here.1
  | inr other ↦ inr ((exact position).1 (has, λ lowest. other.1 (one_lowest position lowest)))
]
  where
    one_lowest : (other : ℕ) → IsLowest rest other → other ≡ low
    one_lowest other also =
        let below = is.least other also.has in let above = also.least low is.has in omega arith

-- a list of masks with one that has more has more
set_keeps : (rows : List ℕ) (at mask : ℕ) → at < length rows
    → ((bit : ℕ) → Has (get_or rows at 0) bit → Has mask bit)
    → (other bit : ℕ) → Has (get_or rows other 0) bit → Has (get_or (set rows at mask) other 0) bit
set_keeps rows at mask within more other bit has = elim (eqb_tells other at) [
  | inl here ↦
      let now : get_or (set rows at mask) other 0 ≡ mask =
      ap (λ (i : ℕ). get_or (set rows at mask) i 0) here.1
      ∙ get_or-set_same rows at mask 0 within in
      subst (λ (m : ℕ). Has m bit) (sym now)
      (more bit (subst (λ (i : ℕ). Has (get_or rows i 0) bit) here.1 has))
  | inr apart ↦ subst (λ (m : ℕ). Has m bit)
      (sym (get_or-set_other rows at other mask 0 apart.1)) has
]

module _ (old : List ℕ) (place mask : ℕ) where
  -- the rows of the positions have the place but for those that are left
  pub record IsHolding (rest : ℕ) (rows : List ℕ) : Type 0 where
    pub left : (position : ℕ) → Has rest position → Has mask position
    pub kept : KeepsRows old rows
    pub held : (position : ℕ) → Has mask position → Has rest position ⊎ HasRow rows position place
    pub only : (position other : ℕ) → other < max_reach → HasRow rows position other
        → HasRow old position other ⊎ ((place ≡ other) × Has mask position)

  -- all are left
  pub holding_begun : IsHolding mask old
  holding_begun = record {
    left = λ position has. has;
    kept = λ position other has. has;
    held = λ position has. inl has;
    only = λ position other lt row. inl row;
  }

  module _ (low word : ℕ) (rows : List ℕ) (within : low * block_count + place / 128 < length rows)
      (read : word ≡ get_or rows (low * block_count + place / 128) 0) where
    -- the rows with the place in one of them
    abbrev rows' : List ℕ
    rows' = set rows (low * block_count + place / 128) (bit_or word (2 ^ (place % 128)))

    -- they have what they had
    kept_rows : KeepsRows rows rows'
    kept_rows position other has = record {
      bit =
          set_keeps rows (low * block_count + place / 128) (bit_or word (2 ^ (place % 128))) within
          (λ bit was. has_first word (2 ^ (place % 128)) bit
          (subst (λ (m : ℕ). Has m bit) (sym read) was))
          (position * block_count + other / 128) (other % 128) has.bit;
    }

    -- and the place
    row_has : HasRow rows' low place
    row_has = record {
      bit = subst (λ (m : ℕ). Has m (place % 128))
          (sym (get_or-set_same rows (low * block_count + place / 128)
          (bit_or word (2 ^ (place % 128))) 0 within))
          (has_second word (2 ^ (place % 128)) (place % 128) (has_one (place % 128)));
    }

    -- and no other
    only_row : (position other : ℕ) → place < max_reach → other < max_reach
        → HasRow rows' position other
        → HasRow rows position other ⊎ ((place ≡ other) × (position ≡ low))
    only_row position other below lt row =
        elim (eqb_tells (position * block_count + other / 128) (low * block_count + place / 128)) [
          | inl (test, here) ↦
              let now : get_or rows' (position * block_count + other / 128) 0
              ≡ bit_or word (2 ^ (place % 128)) =
              ap (λ (i : ℕ). get_or rows' i 0) here
              ∙ get_or-set_same rows (low * block_count + place / 128)
              (bit_or word (2 ^ (place % 128))) 0 within in
              elim (has_or word (2 ^ (place % 128)) (other % 128)
              (subst (λ (m : ℕ). Has m (other % 128)) now row.bit)) [
                | inl was ↦ inl (record {
                  bit = subst (λ (m : ℕ). Has m (other % 128))
                      (read ∙ sym (ap (λ (i : ℕ). get_or rows i 0) here)) was;
                })
                | inr one ↦
                    let same : place % 128 ≡ other % 128 =
                    has_only_one (place % 128) (other % 128) one in
                    inr (omega arith, omega arith)
              ]
          | inr (test, apart) ↦ inl (record {
            bit = subst (λ (m : ℕ). Has m (other % 128))
                (get_or-set_other rows (low * block_count + place / 128)
                (position * block_count + other / 128) (bit_or word (2 ^ (place % 128)))
                0 apart) row.bit;
          })
        ]

    -- the lowest of them
    pub holding_next : (rest after : ℕ) → place < max_reach → IsHolding rest rows
        → IsLowest rest low
        → ((other : ℕ) → Has after other ↔ (Has rest other × (IsLowest rest other → ⊥)))
        → IsHolding after rows'
    holding_next rest after below before is exact = record {
      left = λ position has. before.left position ((exact position).0 has).0;
      kept = λ position other has. kept_rows position other (before.kept position other has);
      held = λ position has. elim (before.held position has) [
        | inr done ↦ inr (kept_rows position place done)
        | inl waits ↦ elim (low_or_left rest low after position is exact waits) [
          | inl here ↦ inr (subst (λ (p : ℕ). HasRow rows' p place) (sym here) row_has)
          | inr still ↦ inl still
        ]
      ];
      only = λ position other lt row. elim (only_row position other below lt row) [
        | inl was ↦ before.only position other lt was
        | inr (same, here) ↦ inr (same, subst (Has mask) (sym here) (before.left low is.has))
      ];
    }

  -- all are done
  pub holding_all : (rows : List ℕ) → IsHolding 0 rows → (position : ℕ) → Has mask position
      → HasRow rows position place
  holding_all rows all position has = elim (all.held position has) [
    | inl waits ↦ absurd (has_zero position waits)
    | inr done ↦ done
  ]

module _ (rows : List ℕ) (mask block : ℕ) where
  -- some position of the mask has the place in its row
  abbrev IsInSome : ℕ → Type 0
  IsInSome place = (position : ℕ) × Has mask position × HasRow rows position place

  -- what is in the rows of the positions was found, but for those that are left
  pub record IsGathering (rest found : ℕ) : Type 0 where
    pub left : (position : ℕ) → Has rest position → Has mask position
    pub found_in : (position place : ℕ) → Has mask position → place / 128 ≡ block
        → HasRow rows position place → Has rest position ⊎ Has found (place % 128)
    pub only : (place : ℕ) → place / 128 ≡ block → Has found (place % 128) → IsInSome place

  -- all are left
  pub gathering_begun : IsGathering mask 0
  gathering_begun = record {
    left = λ position has. has;
    found_in = λ position place has here row. inl has;
    only = λ place here has. absurd (has_zero (place % 128) has);
  }

  -- the lowest of them
  pub gathering_next : (rest low after word found : ℕ) → IsGathering rest found → IsLowest rest low
      → ((other : ℕ) → Has after other ↔ (Has rest other × (IsLowest rest other → ⊥)))
      → word ≡ get_or rows (low * block_count + block) 0 → IsGathering after (bit_or found word)
  gathering_next rest low after word found before is exact read = record {
    left = λ position has. before.left position ((exact position).0 has).0;
    found_in = λ position place has here row. elim (before.found_in position place has here row) [
      | inr done ↦ inr (has_first found word (place % 128) done)
      | inl waits ↦ elim (low_or_left rest low after position is exact waits) [
        | inl lowest ↦
            let same : get_or rows (position * block_count + place / 128) 0 ≡ word =
            ap (λ (p : ℕ). get_or rows (p * block_count + place / 128) 0) lowest
            ∙ ap (λ (b : ℕ). get_or rows (low * block_count + b) 0) here ∙ sym read in
            inr (has_second found word (place % 128)
            (subst (λ (m : ℕ). Has m (place % 128)) same row.bit))
        | inr still ↦ inl still
      ]
    ];
    only = λ place here has. elim (has_or found word (place % 128) has) [
      | inl was ↦ before.only place here was
      | inr bit ↦
          let same : word ≡ get_or rows (low * block_count + place / 128) 0 =
          read ∙ ap (λ (b : ℕ). get_or rows (low * block_count + b) 0) (sym here) in (
            low,
            before.left low is.has,
            record { bit = subst (λ (m : ℕ). Has m (place % 128)) same bit },
          )
    ];
  }

  -- all are done
  pub gathering_all : (found : ℕ) → IsGathering 0 found → (position place : ℕ) → Has mask position
      → place / 128 ≡ block → HasRow rows position place → Has found (place % 128)
  gathering_all found all position place has here row =
      elim (all.found_in position place has here row) [
        | inl waits ↦ absurd (has_zero position waits)
        | inr done ↦ done
      ]

-- no pair is held by rows of zeros
pub held_begun : (count count' : ℕ) (pairs : List Pair)
    → AreHeld (replicate count 0) (replicate count' 0) pairs 0
held_begun count count' pairs = record {
  one = λ place position pair lt found. absurd (omega (arith, lt));
  two = λ place position pair lt found. absurd (omega (arith, lt));
  none = λ place position le lt. (zero_row count position place, zero_row count' position place);
}
  where
    zero_row : (count position place : ℕ) → HasRow (replicate count 0) position place → ⊥
    zero_row count position place row =
        has_zero (place % 128) (subst (λ (m : ℕ). Has m (place % 128))
        (zero_there count (position * block_count + place / 128)) row.bit)

-- more pairs after the others change none
pub held_grown : (first second : List ℕ) (pairs pairs' : List Pair) (end : ℕ)
    → AreHeld first second pairs end → end ≤ length pairs → IsGrown pairs pairs'
    → AreHeld first second pairs' end
held_grown first second pairs pairs' end before within grown = record {
  one = λ place position pair lt found. before.one place position pair lt
      (found_before pairs pairs' place pair grown (omega arith) found);
  two = λ place position pair lt found. before.two place position pair lt
      (found_before pairs pairs' place pair grown (omega arith) found);
  none = before.none;
}

module _ (mask : Pair → ℕ) (rows rows' : List ℕ) (pairs : List Pair) (place : ℕ) (pair : Pair)
    (found : slice_get pairs place ≡ Some pair) (below : place < max_reach)
    (before : (other position : ℕ) (pair' : Pair) → other < place
    → slice_get pairs other ≡ Some pair' → Has (mask pair') position ↔ HasRow rows position other)
    (none : (position : ℕ) → HasRow rows position place → ⊥) (kept : KeepsRows rows rows')
    (held : (position : ℕ) → Has (mask pair) position → HasRow rows' position place)
    (only : (position other : ℕ) → other < max_reach → HasRow rows' position other
    → HasRow rows position other ⊎ ((place ≡ other) × Has (mask pair) position)) where
  -- the rows of one automaton with one pair more
  one_held : (other position : ℕ) (pair' : Pair) → other < place + 1
      → slice_get pairs other ≡ Some pair' → Has (mask pair') position ↔ HasRow rows' position other
  one_held other position pair' lt found' = elim (cases_lt other place) [
    | inl less ↦
        let was = before other position pair' less found' in (
          λ has. kept position other (was.0 has),
          λ row. elim (only position other (omega (arith, lt, below)) row) [
            | inl still ↦ was.1 still
            | inr (here, has) ↦ absurd (omega (arith, less, here))
          ],
        )
    | inr most ↦
        let here : place ≡ other = omega (arith, lt, most) in
        let same : pair' ≡ pair = same_Some pair' pair
        (sym found' ∙ subst (λ (p : ℕ). slice_get pairs p ≡ Some pair) here found) in (
          λ has. subst (λ (p : ℕ). HasRow rows' position p) here
              (held position (subst (λ q. Has (mask q) position) same has)),
          λ row. elim (only position other (omega (arith, lt, below)) row) [
            | inl still ↦
                absurd (none position (subst (λ (p : ℕ). HasRow rows position p) (sym here) still))
            | inr (same_place, has) ↦ subst (λ q. Has (mask q) position) (sym same) has
          ],
        )
  ]

-- one more pair is held
pub held_next : (first second first' second' : List ℕ) (pairs : List Pair) (place : ℕ) (pair : Pair)
    → AreHeld first second pairs place → slice_get pairs place ≡ Some pair → place < max_reach
    → KeepsRows first first'
    → ((position : ℕ) → Has (mask_of pair.first) position → HasRow first' position place)
    → ((position other : ℕ) → other < max_reach → HasRow first' position other
    → HasRow first position other ⊎ ((place ≡ other) × Has (mask_of pair.first) position))
    → KeepsRows second second'
    → ((position : ℕ) → Has (mask_of pair.second) position → HasRow second' position place)
    → ((position other : ℕ) → other < max_reach → HasRow second' position other
    → HasRow second position other ⊎ ((place ≡ other) × Has (mask_of pair.second) position))
    → AreHeld first' second' pairs (place + 1)
held_next first second first' second' pairs place pair before found below kept held only kept' held'
    only' = record {
      one = one_held (λ q. mask_of q.first) first first' pairs place pair found below before.one
          (λ position. (before.none place position (omega arith) below).0) kept held only;
      two = one_held (λ q. mask_of q.second) second second' pairs place pair found below before.two
          (λ position. (before.none place position (omega arith) below).1) kept' held' only';
      none = λ other position le lt. (
        λ row. elim (only position other lt row) [
          | inl was ↦ (before.none other position (omega (arith, le)) lt).0 was
          | inr (here, has) ↦ absurd (omega (arith, le, here))
        ],
        λ row. elim (only' position other lt row) [
          | inl was ↦ (before.none other position (omega (arith, le)) lt).1 was
          | inr (here, has) ↦ absurd (omega (arith, le, here))
        ],
      );
    }
