-- How pairs are added for the bits of a mask, one after the other, and for the blocks of a
-- set of places.
use Rattle.std.proofs.Common.{◌≡◌, ℕ, ◌+◌, ◌*◌, ◌/◌, ◌%◌, ◌≤◌, ◌↔◌, ◌⊎◌, List, length, subst, inl}
use Rattle.std.proofs.Common.{inr, arith}
use Rattle.std.proofs.lemmas.Bool.{cases_lt}
use Rattle.rate_expr.specs.Sets.{Has, IsLowest}
use Rattle.rate_equal.specs.Added.{AreAdded, HasPair}
use Rattle.rate_equal.specs.PlaceSets.{IsIn}
use Rattle.rate_equal.specs.Reach.{max_reach}
use Rattle.rate_equal.specs.declared.pair.Pair.{Pair}
use Rattle.rate_equal.proofs.Added.{added_more, added_none, pair_kept}
use Rattle.rate_equal.proofs.Holding.{low_or_left}

-- a place of the block that is left is that of the lowest bit, or is left after it
pub in_low_or_left : (block rest low after place : ℕ) → IsLowest rest low
    → ((other : ℕ) → Has after other ↔ (Has rest other × (IsLowest rest other → ⊥)))
    → IsIn block rest place → (place ≡ block * 128 + low) ⊎ IsIn block after place
in_low_or_left block rest low after place is exact (here, has) =
    elim (low_or_left rest low after (place % 128) is exact has) [
      | inl same ↦ inl (omega (arith, same, here))
      | inr still ↦ inr (here, still)
    ]

-- a place in blocks from one on is in this, or in those from the next one on
pub here_or_later : (block place : ℕ) → block ≤ place / 128
    → (place / 128 ≡ block) ⊎ (block + 1 ≤ place / 128)
here_or_later block place from = elim (cases_lt block (place / 128)) [
  | inl less ↦ inr (omega arith)
  | inr most ↦ inl (omega arith)
]

module _ (wanted placed : Pair → Type 0) (old : List Pair) (held : List ℕ) where
  -- pairs were added, and all are there that are due, but for those that are still to come
  pub record IsOnTheWay (due : ℕ → Pair → Type 0) (comes : ℕ → Type 0) (new : List Pair)
      (places : List ℕ) : Type 0 where
    pub added : AreAdded wanted placed old held new places
    pub done : (place : ℕ) (pair : Pair) → due place pair → comes place ⊎ HasPair new places pair

  module _ (due : ℕ → Pair → Type 0) where
    -- all are to come
    pub way_begun : (comes : ℕ → Type 0) → length old ≤ max_reach
        → ((place : ℕ) (pair : Pair) → due place pair → comes place) → IsOnTheWay due comes old held
    way_begun comes few all = record {
      added = added_none wanted placed old held few;
      done = λ place pair is. inl (all place pair is);
    }

    -- some more were added, and with them those that were to come and are not any more
    pub way_next : (also there : Pair → Type 0) (comes after : ℕ → Type 0) (mid new : List Pair)
        (between places : List ℕ) → IsOnTheWay due comes mid between
        → ((pair : Pair) → also pair → wanted pair) → ((pair : Pair) → there pair → placed pair)
        → AreAdded also there mid between new places
        → ((place : ℕ) (pair : Pair) → due place pair → comes place
        → after place ⊎ HasPair new places pair)
        → IsOnTheWay due after new places
    way_next also there comes after mid new between places before is_wanted is_placed added came =
        record {
          added =
              added_more wanted placed also there old mid held between before.added
              is_wanted is_placed new places added;
          done = λ place pair is. elim (before.done place pair is) [
            | inl waits ↦ came place pair is waits
            | inr ready ↦ inr (pair_kept also there mid new between places pair added ready)
          ];
        }

    -- what is not to come is there
    pub way_ended : (comes : ℕ → Type 0) (new : List Pair) (places : List ℕ)
        → IsOnTheWay due comes new places → (place : ℕ) (pair : Pair) → due place pair
        → (comes place → ⊥) → HasPair new places pair
    way_ended comes new places all place pair is none = elim (all.done place pair is) [
      | inl waits ↦ absurd (none waits)
      | inr ready ↦ ready
    ]

    module _ (also there : Pair → Type 0) (mid new : List Pair) (between places : List ℕ)
        (is_wanted : (pair : Pair) → also pair → wanted pair)
        (is_placed : (pair : Pair) → there pair → placed pair)
        (added : AreAdded also there mid between new places) where
      -- those of the lowest bit that is left of a block
      pub way_low : (block rest low after : ℕ) → IsOnTheWay due (IsIn block rest) mid between
          → IsLowest rest low
          → ((other : ℕ) → Has after other ↔ (Has rest other × (IsLowest rest other → ⊥)))
          → ((pair : Pair) → due (block * 128 + low) pair → HasPair new places pair)
          → IsOnTheWay due (IsIn block after) new places
      way_low block rest low after before is exact here =
          way_next also there (IsIn block rest) (IsIn block after)
          mid new between places before is_wanted is_placed added
          (λ place pair of waits. elim (in_low_or_left block rest low after place is exact waits) [
            | inl same ↦ inr (here pair (subst (λ (p : ℕ). due p pair) same of))
            | inr still ↦ inl still
          ])

      -- those of one block more
      pub way_block : (block : ℕ) → IsOnTheWay due (λ place. block ≤ place / 128) mid between
          → ((place : ℕ) (pair : Pair) → place / 128 ≡ block → due place pair
          → HasPair new places pair)
          → IsOnTheWay due (λ place. block + 1 ≤ place / 128) new places
      way_block block before here = way_next also there (λ place. block ≤ place / 128)
          (λ place. block + 1 ≤ place / 128) mid new between places before is_wanted is_placed added
          (λ place pair of waits. elim (here_or_later block place waits) [
            | inl same ↦ inr (here place pair same of)
            | inr later ↦ inl later
          ])
