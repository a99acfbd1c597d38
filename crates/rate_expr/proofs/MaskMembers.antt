-- The positions in a mask.
use Rattle.std.proofs.Common.{◌≡◌, ◌≢◌, ◌⊎◌, inl, inr, ℕ, ◌^◌, ◌==◌, max, Bool, true, false, bit_or}
use Rattle.std.proofs.Common.{refl, sym, ◌∙◌, arith}
use Rattle.std.proofs.lemmas.Bool.Decides.{eqb_tells}
use Rattle.std.proofs.lemmas.Nat.Bits.{bit_at_or, bit_at-zero, bit_at-lt, bit_at-pow_same}
use Rattle.std.proofs.lemmas.Nat.Bits.{bit_at-pow_other}
use Rattle.std.specs.Int.{bit_at}
use Rattle.rate_expr.specs.Parts.{with_if}
use Rattle.rate_expr.specs.Sets.{Has}

-- no position is in the empty mask
pub has_zero : (n : ℕ) → Has 0 n → ⊥
has_zero n has = omega (arith, bit_at-zero n)

-- the mask of one position has it
pub has_one : (k : ℕ) → Has (2 ^ k) k
has_one k = bit_at-pow_same k

-- and no other
pub has_only_one : (k n : ℕ) → Has (2 ^ k) n → k ≡ n
has_only_one k n has = decided (eqb_tells n k)
  where
    decided : ((n == k) ≡ true) × (n ≡ k) ⊎ ((n == k) ≡ false) × (n ≢ k) → k ≡ n
    decided (inl same) = sym same.1
    decided (inr other) = absurd (omega (arith, bit_at-pow_other k n other.1))

-- the greater of two numbers is 1 where one of them is
one_of_two : (x y : ℕ) → max x y ≡ 1 → (x ≡ 1) ⊎ (y ≡ 1)
one_of_two x y is = decided (eqb_tells x 1)
  where
    decided : ((x == 1) ≡ true) × (x ≡ 1) ⊎ ((x == 1) ≡ false) × (x ≢ 1) → (x ≡ 1) ⊎ (y ≡ 1)
    decided (inl same) = inl same.1
    decided (inr other) = inr (let ne = other.1 in omega arith)

-- a position of two masks together is in one of them
pub has_or : (a b n : ℕ) → Has (bit_or a b) n → Has a n ⊎ Has b n
has_or a b n has = one_of_two (bit_at a n) (bit_at b n) (sym (bit_at_or a b n) ∙ has)

-- those of the first are in both together
pub has_first : (a b n : ℕ) → Has a n → Has (bit_or a b) n
has_first a b n has = omega (arith, bit_at_or a b n, bit_at-lt b n)

-- and those of the second
pub has_second : (a b n : ℕ) → Has b n → Has (bit_or a b) n
has_second a b n has = omega (arith, bit_at_or a b n, bit_at-lt a n)

-- a position of a mask is in it with another too
pub has_kept : (mask : ℕ) (test : Bool) (other n : ℕ) → Has mask n → Has (with_if mask test other) n
has_kept mask true other n has = has_first mask other n has
has_kept mask false other n has = has

-- one of the other is there where the test holds
pub has_more : (mask : ℕ) (test : Bool) (other n : ℕ) → test ≡ true → Has other n
    → Has (with_if mask test other) n
has_more mask true other n holds has = has_second mask other n has
has_more mask false other n holds has = absurd (cc)

-- and no others are
pub has_no_more : (mask : ℕ) (test : Bool) (other n : ℕ) → Has (with_if mask test other) n
    → Has mask n ⊎ (test ≡ true) × Has other n
has_no_more mask true other n has = in_one (has_or mask other n has)
  where
    in_one : Has mask n ⊎ Has other n → Has mask n ⊎ (true ≡ true) × Has other n
    in_one (inl there) = inl there
    in_one (inr there) = inr (refl, there)
has_no_more mask false other n has = inl has

-- a mask with one position more has that position and its own
pub has_added : (mask at position : ℕ) → Has (bit_or mask (2 ^ at)) position
    → Has mask position ⊎ (position ≡ at)
has_added mask at position has = in_one (has_or mask (2 ^ at) position has)
  where
    in_one : Has mask position ⊎ Has (2 ^ at) position → Has mask position ⊎ (position ≡ at)
    in_one (inl there) = inl there
    in_one (inr one) = inr (sym (has_only_one at position one))

pub has_added_same : (mask at : ℕ) → Has (bit_or mask (2 ^ at)) at
has_added_same mask at = has_second mask (2 ^ at) at (has_one at)
