-- Masks whose positions are moved higher.
use Rattle.std.proofs.Common.{◌≡◌, inl, inr, ℕ, ◌+◌, ◌-◌, ◌*◌, ◌%◌, ◌^◌, ◌<◌, ◌≤◌, sym, ap, ◌∙◌}
use Rattle.std.proofs.Common.{subst, arith}
use Rattle.std.proofs.Math.Nat.{mul_assoc, mul-mod_left}
use Rattle.std.proofs.lemmas.Nat.{pow-add, pow_pos, shl_below, shl_whole}
use Rattle.std.proofs.lemmas.Nat.Bits.{bit_at_cat_high, bit_at_cat_low}
use Rattle.std.specs.Int.{bit_at}
use Rattle.rate_expr.specs.Joined.{moved}
use Rattle.rate_expr.specs.Sets.{Has}
use Rattle.rate_expr.proofs.MaskMembers.{has_zero}
use Rattle.rate_expr.proofs.MaskSets.{below_or_not}

-- moved past the last bit, no position is left
pub moved_out : (count mask : ℕ) → 128 ≤ count → moved count mask ≡ 0
moved_out count mask far =
    ap (λ (n : ℕ). mask * 2 ^ n % 2 ^ 128) split
    ∙ ap (λ (n : ℕ). mask * n % 2 ^ 128) (pow-add 2 (count - 128) 128)
    ∙ ap (λ (n : ℕ). n % 2 ^ 128) (sym (mul_assoc mask (2 ^ (count - 128)) (2 ^ 128)))
    ∙ mul-mod_left (mask * 2 ^ (count - 128)) (2 ^ 128)
  where
    split : count ≡ (count - 128) + 128
    split = omega arith

-- none is left out of a mask that stays below the last bit
moved_whole : (count mask long : ℕ) → mask < 2 ^ long → count + long ≤ 128
    → moved count mask ≡ mask * 2 ^ count
moved_whole count mask long below few = shl_whole mask long count 128 below (omega arith)

pub moved_below : (count mask long : ℕ) → mask < 2 ^ long → count + long ≤ 128
    → moved count mask < 2 ^ (count + long)
moved_below count mask long below few =
    let order : long + count ≡ count + long = omega arith in
    let less : mask * 2 ^ count < 2 ^ (long + count) = shl_below mask long count below in
    subst (λ (n : ℕ). moved count mask < 2 ^ n) order
    (subst (λ (m : ℕ). m < 2 ^ (long + count)) (sym (moved_whole count mask long below few)) less)

-- the other mask has the positions of the one, each higher by this much
pub record IsMoved (count mask other : ℕ) : Type 0 where
  pub each : (n : ℕ) → Has mask n → Has other (count + n)
  pub only : (m : ℕ) → Has other m → (n : ℕ) × (count + n ≡ m) × Has mask n

plus_none : (n : ℕ) → n ≡ n + 0
plus_none n = omega arith

plus_minus : (count n : ℕ) → (count + n) - count ≡ n
plus_minus count n = omega arith

shifted : (count mask : ℕ) → IsMoved count mask (mask * 2 ^ count + 0)
shifted count mask = record { each = each; only = only }
  where
    each : (n : ℕ) → Has mask n → Has (mask * 2 ^ count + 0) (count + n)
    each n has =
        bit_at_cat_high mask count 0 (count + n) (pow_pos count) (omega arith)
        ∙ ap (λ (i : ℕ). bit_at mask i) (plus_minus count n)
        ∙ has

    only : (m : ℕ) → Has (mask * 2 ^ count + 0) m → (n : ℕ) × (count + n ≡ m) × Has mask n
    only m has = elim (below_or_not m count) [
      | inl low ↦ absurd (has_zero m (sym (bit_at_cat_low mask count 0 m low) ∙ has))
      | inr high ↦
          (m - count, omega arith, sym (bit_at_cat_high mask count 0 m (pow_pos count) high) ∙ has)
    ]

pub is_moved : (count mask long : ℕ) → mask < 2 ^ long → count + long ≤ 128
    → IsMoved count mask (moved count mask)
is_moved count mask long below few =
    let whole = moved_whole count mask long below few ∙ plus_none (mask * 2 ^ count) in
    subst (λ (other : ℕ). IsMoved count mask other) (sym whole) (shifted count mask)
