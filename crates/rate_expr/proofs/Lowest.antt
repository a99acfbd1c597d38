-- The lowest position of a mask, and the others.
use Rattle.std.proofs.Common.{◌≡◌, ◌⊎◌, inl, inr, ℕ, ◌+◌, ◌-◌, ◌*◌, ◌/◌, ◌%◌, ◌^◌, ◌<◌, ◌≤◌, ◌↔◌}
use Rattle.std.proofs.Common.{sym, ap, ◌∙◌, subst, arith, bit_and}
use Rattle.std.proofs.Math.Nat.{div-add-mod, eq-or-lt_of_le, mod-lt, mul_comm}
use Rattle.std.proofs.lemmas.Nat.{pow_pos}
use Rattle.std.proofs.lemmas.Bool.Decides.{eqb_tells}
use Rattle.std.proofs.lemmas.Nat.Bits.{bit_at-lt, bit_at-pow_same, bit_at-pow_other, bit_at-zero}
use Rattle.std.proofs.lemmas.Nat.Bits.{bit_at_above, bit_at_cat_low, bit_at_cat_high}
use Rattle.std.proofs.lemmas.Nat.Bits.{bit_at-trailing_zeros, same_from_bits}
use Rattle.std.specs.Int.{bit_at, trailing_zeros, w128}
use Rattle.rate_expr.specs.Sets.{Has, IsLowest}
use Rattle.rate_expr.proofs.MaskSets.{below_or_not, has-and, has-and_both}

-- a number by its bits from k on and those below
by_parts : (n k : ℕ) → n / 2 ^ k * 2 ^ k + n % 2 ^ k ≡ n
by_parts n k =
    ap (λ m. m + n % 2 ^ k) (mul_comm (n / 2 ^ k) (2 ^ k)) ∙ div-add-mod n (2 ^ k)

-- with a bit set below k, the bits below are not 0
some_below : (n j k : ℕ) → j < k → Has n j → 0 < n % 2 ^ k
some_below n j k below has = elim (below_or_not 0 (n % 2 ^ k)) [
  | inl some ↦ some
  | inr none ↦
      let zero_below : n % 2 ^ k ≡ 0 = omega arith in
      let whole : n / 2 ^ k * 2 ^ k + 0 ≡ n =
      ap (λ m. n / 2 ^ k * 2 ^ k + m) (sym zero_below) ∙ by_parts n k in
      let unset : bit_at n j ≡ 0 =
      ap (λ m. bit_at m j) (sym whole) ∙ bit_at_cat_low (n / 2 ^ k) k 0 j below ∙ bit_at-zero j in
      absurd (omega arith)
]

-- and one less has the same bit at k
bit_at-less_one : (n k : ℕ) → 0 < n % 2 ^ k → bit_at (n - 1) k ≡ bit_at n k
bit_at-less_one n k some =
    let within : n % 2 ^ k < 2 ^ k = mod-lt n (pow_pos k) in
    let less : n / 2 ^ k * 2 ^ k + (n % 2 ^ k - 1) ≡ n - 1 = less_one _ _ n some (by_parts n k) in
    ap (λ m. bit_at m k) (sym less)
    ∙ bit_at_cat_high (n / 2 ^ k) k (n % 2 ^ k - 1) k (smaller _ _ within) (omega arith)
    ∙ sym (bit_at_cat_high (n / 2 ^ k) k (n % 2 ^ k) k within (omega arith))
    ∙ ap (λ m. bit_at m k) (by_parts n k)
  where
    less_one : (above below n : ℕ) → 0 < below → above + below ≡ n → above + (below - 1) ≡ n - 1
    less_one above below n some e = omega arith

    smaller : (below power : ℕ) → below < power → below - 1 < power
    smaller below power within = omega arith

-- without its lowest position, a mask has the others
pub has-others :
    (mask position : ℕ) → 0 < mask → mask < 2 ^ 128 → Has mask position
    → (trailing_zeros w128 mask ≡ position) ⊎ Has (bit_and mask (mask - 1)) position
has-others mask position some fits has =
    let low = trailing_zeros w128 mask in
    let lowest = bit_at-trailing_zeros w128 mask some fits in
    let least : low ≤ position = elim (below_or_not position low) [
      | inl below ↦ absurd (omega (arith, lowest.2 position below, has))
      | inr above ↦ above
    ] in
    elim (eq-or-lt_of_le least) [
      | inl here ↦ inl here
      | inr above ↦ inr (has-and_both mask (mask - 1) position has
          (bit_at-less_one mask position (some_below mask low position above lowest.1) ∙ has))
    ]

-- the lowest position
pub is_lowest : (mask : ℕ) → 0 < mask → mask < 2 ^ 128 → IsLowest mask (trailing_zeros w128 mask)
is_lowest mask some fits =
    let low = trailing_zeros w128 mask in
    let lowest = bit_at-trailing_zeros w128 mask some fits in
    record {
      has = lowest.1;
      least = λ other has. elim (below_or_not other low) [
        | inl below ↦ absurd (omega (arith, lowest.2 other below, has))
        | inr above ↦ above
      ];
    }

-- the bits up to the lowest that is set are a power
power_below : (mask low : ℕ) → Has mask low → ((i : ℕ) → i < low → bit_at mask i ≡ 0)
    → mask % 2 ^ (low + 1) ≡ 2 ^ low
power_below mask low has none = same_from_bits (mask % 2 ^ (low + 1)) (2 ^ low) same
  where
    kept : (i : ℕ) → i < low + 1 → bit_at (mask % 2 ^ (low + 1)) i ≡ bit_at mask i
    kept i below =
        sym (bit_at_cat_low (mask / 2 ^ (low + 1)) (low + 1) (mask % 2 ^ (low + 1)) i below)
        ∙ ap (λ m. bit_at m i) (by_parts mask (low + 1))

    same : (i : ℕ) → bit_at (mask % 2 ^ (low + 1)) i ≡ bit_at (2 ^ low) i
    same i = elim (below_or_not i (low + 1)) [
      | inr above ↦ bit_at_above (mask % 2 ^ (low + 1)) (low + 1) i
          (mod-lt mask (pow_pos (low + 1))) above ∙ sym (bit_at-pow_other low i (λ at. omega arith))
      | inl below ↦ kept i below ∙ (elim (eqb_tells i low) [
        | inl at ↦ subst (λ (k : ℕ). bit_at mask k ≡ bit_at (2 ^ low) k) (sym at.1)
            (has ∙ sym (bit_at-pow_same low))
        | inr other ↦ let differ = other.1 in
            none i (omega arith) ∙ sym (bit_at-pow_other low i other.1)
      ])
    ]

-- so one less has it not
not_lowest : (mask low : ℕ) → Has mask low → ((i : ℕ) → i < low → bit_at mask i ≡ 0)
    → bit_at (mask - 1) low ≡ 0
not_lowest mask low has none =
    let power = power_below mask low has none in
    let some : 0 < 2 ^ low = pow_pos low in
    let whole : mask / 2 ^ (low + 1) * 2 ^ (low + 1) + 2 ^ low ≡ mask =
    ap (λ m. mask / 2 ^ (low + 1) * 2 ^ (low + 1) + m) (sym power) ∙ by_parts mask (low + 1) in
    let less : mask / 2 ^ (low + 1) * 2 ^ (low + 1) + (2 ^ low - 1) ≡ mask - 1 =
    one_less _ _ mask some whole in
    ap (λ m. bit_at m low) (sym less)
    ∙ bit_at_cat_low (mask / 2 ^ (low + 1)) (low + 1) (2 ^ low - 1) low (omega arith)
    ∙ bit_at_above (2 ^ low - 1) low low (omega arith) (omega arith)
  where
    one_less : (above power whole : ℕ) → 0 < power → above + power ≡ whole
        → above + (power - 1) ≡ whole - 1
    one_less above power whole some e = omega arith

-- without its lowest position, a mask has exactly the others
pub without_lowest : (mask : ℕ) → 0 < mask → mask < 2 ^ 128 → (position : ℕ)
    → Has (bit_and mask (mask - 1)) position ↔ (Has mask position × (IsLowest mask position → ⊥))
without_lowest mask some fits position = (
  λ has.
      let both = has-and mask (mask - 1) position has in (
        both.0,
        λ lowest. let unset = not_lowest mask position lowest.has (below position lowest) in
            let set = both.1 in omega arith,
      ),
  λ each. elim (has-others mask position some fits each.0) [
    | inr other ↦ other
    | inl here ↦
        absurd (each.1 (subst (λ (p : ℕ). IsLowest mask p) here (is_lowest mask some fits)))
  ],
)
  where
    below : (at : ℕ) → IsLowest mask at → (i : ℕ) → i < at → bit_at mask i ≡ 0
    below at lowest i less = elim (eqb_tells (bit_at mask i) 1) [
      | inl one ↦ let above = lowest.least i one.1 in absurd (omega arith)
      | inr other ↦ let differ = other.1 in omega (arith, bit_at-lt mask i)
    ]
