-- The places of a set.
use Rattle.std.proofs.Common.{◌≡◌, ◌≢◌, ℕ, zero, suc, ◌+◌, ◌*◌, ◌/◌, ◌%◌, ◌^◌, ◌<◌, ◌∙◌, ◌↔◌, ◌⊎◌}
use Rattle.std.proofs.Common.{List, bit_and, bit_or, get_or, length, set, slice_index, replicate}
use Rattle.std.proofs.Common.{refl, sym, ap, subst, inl, inr, arith}
use Rattle.std.proofs.lemmas.Bool.Decides.{eqb_tells}
use Rattle.std.proofs.lemmas.List.{get_or-set_same, get_or-set_other}
use Rattle.std.proofs.lemmas.Nat.Bits.{bit_at-lt, bit_at_not}
use Rattle.std.specs.Int.{bit_at, bit_not, w128}
use Rattle.rate_expr.specs.Sets.{Has}
use Rattle.rate_expr.proofs.MaskMembers.{has_first, has_one, has_only_one, has_or, has_second}
use Rattle.rate_expr.proofs.MaskMembers.{has_zero}
use Rattle.rate_expr.proofs.MaskSets.{has-and, has-and_both, has-below}
use Rattle.rate_equal.specs.PlaceSets.{AddsBlock, AddsPlace, HasPlace, KeepsBlock, block_count}

-- a list of zeros has no other
pub zero_there : (count i : ℕ) → (λ (m : ℕ). get_or (replicate count m) i m ≡ m) 0
zero_there zero i = refl
zero_there (suc count) zero = refl
zero_there (suc count) (suc i) = zero_there count i

-- so a set of them has no place
pub none_there : (count place : ℕ) → HasPlace (replicate count 0) place → ⊥
none_there count place has =
    has_zero (place % 128)
    (subst (λ (m : ℕ). Has m (place % 128)) (zero_there count (place / 128)) has.bit)

-- a place is determined by its block and its bit
place_is : (place other : ℕ) → place / 128 ≡ other / 128 → place % 128 ≡ other % 128 → place ≡ other
place_is place other block bit = omega arith

-- the place of a bit of a block
pub bit_place : (places : List ℕ) (block mask position : ℕ) → mask < 2 ^ 128
    → mask ≡ slice_index places block → Has mask position → HasPlace places (block * 128 + position)
bit_place places block mask position fits is has =
    let below : position < 128 = has-below mask 128 position fits has in
    let at : (block * 128 + position) / 128 ≡ block = omega arith in
    let rest : (block * 128 + position) % 128 ≡ position = omega arith in record {
      bit = subst (λ (i : ℕ). Has (slice_index places i) ((block * 128 + position) % 128)) (sym at)
          (subst (λ (p : ℕ). Has (slice_index places block) p) (sym rest)
          (subst (λ (m : ℕ). Has m position) is has));
    }

-- the positions of a mask that are not in another
pub has-without : (mask other position : ℕ) → mask < 2 ^ 128 → other < 2 ^ 128
    → Has (bit_and mask (bit_not w128 other)) position
    → Has mask position × (Has other position → ⊥)
has-without mask other position fits fits_other has =
    let both = has-and mask (bit_not w128 other) position has in
    let below = has-below mask 128 position fits both.0 in
    (both.0, λ also. omega (arith, bit_at_not w128 other position fits_other below, both.1, also))

-- a position is in a mask, or in what is not in it
pub in-or-not : (mask position : ℕ) → mask < 2 ^ 128 → position < 128
    → Has mask position ⊎ Has (bit_not w128 mask) position
in-or-not mask position fits below = elim (eqb_tells (bit_at mask position) 1) [
  | inl one ↦ inl one.1
  | inr apart ↦
      let none = apart.1 in
      inr (omega (arith, bit_at_not w128 mask position fits below, bit_at-lt mask position))
]

-- a position of a mask is in another or is not
pub with-or-without : (mask other position : ℕ) → mask < 2 ^ 128 → other < 2 ^ 128
    → Has mask position
    → Has (bit_and mask other) position ⊎ Has (bit_and mask (bit_not w128 other)) position
with-or-without mask other position fits fits_other has =
    elim (eqb_tells (bit_at other position) 1) [
      | inl one ↦ inl (has-and_both mask other position has one.1)
      | inr apart ↦
          let none = apart.1 in
          let below = has-below mask 128 position fits has in
          inr (has-and_both mask (bit_not w128 other) position has
          (omega (
            arith,
            bit_at_not w128 other position fits_other below,
            bit_at-lt other position,
          )))
    ]

-- and the other way
pub without : (mask other : ℕ) → mask < 2 ^ 128 → other < 2 ^ 128 → (position : ℕ)
    → Has (bit_and mask (bit_not w128 other)) position
    ↔ (Has mask position × (Has other position → ⊥))
without mask other fits fits_other position = (
  λ has. has-without mask other position fits fits_other has,
  λ (has, none). elim (with-or-without mask other position fits fits_other has) [
    | inl both ↦ absurd (none (has-and mask other position both).1)
    | inr apart ↦ apart
  ],
)

module _ (places : List ℕ) (block mask : ℕ) (blocks : length places ≡ block_count)
    (within : block < block_count) where
  abbrev more : ℕ
  more = bit_or (get_or places block 0) mask

  -- the bits of the mask are set in the block
  pub adds_block : AddsBlock places (set places block more) block mask
  adds_block other = elim (eqb_tells (other / 128) block) [
    | inl here ↦ in_block here.1
    | inr apart ↦ elsewhere apart.1
  ]
    where
      in_block : other / 128 ≡ block
          → HasPlace (set places block more) other
          ↔ (HasPlace places other ⊎ ((other / 128 ≡ block) × Has mask (other % 128)))
      in_block here =
          let now : get_or (set places block more) (other / 128) 0 ≡ more =
          ap (λ (i : ℕ). get_or (set places block more) i 0) here
          ∙ get_or-set_same places block more 0 (omega arith) in
          let was : get_or places (other / 128) 0 ≡ get_or places block 0 =
          ap (λ (i : ℕ). get_or places i 0) here in (
            λ has. elim (has_or (get_or places block 0) mask (other % 128)
                (subst (λ (m : ℕ). Has m (other % 128)) now has.bit)) [
                  | inl before ↦
                      inl (record { bit = subst (λ (m : ℕ). Has m (other % 128)) (sym was) before })
                  | inr one ↦ inr (here, one)
                ],
            λ cases. record {
              bit = subst (λ (m : ℕ). Has m (other % 128)) (sym now) (elim cases [
                | inl before ↦ has_first (get_or places block 0) mask (other % 128)
                    (subst (λ (m : ℕ). Has m (other % 128)) was before.bit)
                | inr one ↦ has_second (get_or places block 0) mask (other % 128) one.1
              ]);
            },
          )

      elsewhere : other / 128 ≢ block
          → HasPlace (set places block more) other
          ↔ (HasPlace places other ⊎ ((other / 128 ≡ block) × Has mask (other % 128)))
      elsewhere apart =
          let same : get_or (set places block more) (other / 128) 0
          ≡ get_or places (other / 128) 0 =
          get_or-set_other places block (other / 128) more 0 apart in (
            λ has. inl (record { bit = subst (λ (m : ℕ). Has m (other % 128)) same has.bit }),
            λ cases. elim cases [
              | inl before ↦
                  record { bit = subst (λ (m : ℕ). Has m (other % 128)) (sym same) before.bit }
              | inr is ↦ absurd (apart is.0)
            ],
          )

-- the bits of the mask are kept in the block
pub keeps_block : (places : List ℕ) (block mask word : ℕ) → block < length places
    → get_or places block 0 ≡ word
    → KeepsBlock places (set places block (bit_and word mask)) block mask
keeps_block places block mask word within read place has kept =
    elim (eqb_tells (place / 128) block) [
      | inl (test, here) ↦
          let now : get_or (set places block (bit_and word mask)) (place / 128) 0
          ≡ bit_and word mask =
          ap (λ (i : ℕ). get_or (set places block (bit_and word mask)) i 0) here
          ∙ get_or-set_same places block (bit_and word mask) 0 within in
          let was : get_or places (place / 128) 0 ≡ word =
          ap (λ (i : ℕ). get_or places i 0) here ∙ read in record {
            bit = subst (λ (m : ℕ). Has m (place % 128)) (sym now)
                (has-and_both word mask (place % 128)
                (subst (λ (m : ℕ). Has m (place % 128)) was has.bit) (kept here));
          }
      | inr (test, apart) ↦ record {
        bit = subst (λ (m : ℕ). Has m (place % 128))
            (sym (get_or-set_other places block (place / 128) (bit_and word mask) 0 apart)) has.bit;
      }
    ]

-- the bit of a place
pub adds_place : (old new : List ℕ) (place : ℕ)
    → AddsBlock old new (place / 128) (2 ^ (place % 128)) → AddsPlace old new place
adds_place old new place adds other = (
  λ has. elim ((adds other).0 has) [
    | inl before ↦ inl before
    | inr is ↦ inr (place_is place other (sym is.0) (has_only_one (place % 128) (other % 128) is.1))
  ],
  λ cases. (adds other).1 (elim cases [
    | inl before ↦ inl before
    | inr same ↦ inr (
      ap (λ (p : ℕ). p / 128) (sym same),
      subst (λ (p : ℕ). Has (2 ^ (place % 128)) (p % 128)) same (has_one (place % 128)),
    )
  ]),
)
