-- Masks and their positions: bounds, common positions, equal masks.
use Rattle.std.proofs.Common.{◌≡◌, ◌⊎◌, inl, inr, ℕ, suc, zero, ◌+◌, ◌*◌, ◌/◌, ◌%◌, ◌^◌, ◌<◌, ◌≤◌}
use Rattle.std.proofs.Common.{refl, sym, ap, ◌∙◌, subst, arith, bit_and, Bool, true, false, IsTrue}
use Rattle.std.proofs.Common.{not, nat_eq, ltb, ◌↔◌, ◌-◌}
use Rattle.std.proofs.Math.Nat.{div-add-mod, eq-or-lt_of_le, mod-lt, mul_comm, pow-suc}
use Rattle.std.proofs.Math.Pow.{pow_mono}
use Rattle.std.proofs.lemmas.Nat.{pow_pos, and_le_l, and_le_r, leading_length}
use Rattle.std.proofs.lemmas.Nat.Bits.{bit_at_and, bit_at-lt, bit_at_above, bit_at_cat_low}
use Rattle.std.proofs.lemmas.Nat.Bits.{bit_at-trailing_zeros, same_from_bits}
use Rattle.std.proofs.lemmas.Bool.Decides.{eqb_tells, nat_tests}
use Rattle.std.proofs.lemmas.Bool.{eqb-true, eqb-false, ltb-true}
use Rattle.std.specs.Int.Count.{count_leading_zeros}
use Rattle.std.specs.Prelude.{MatchBool}
use Rattle.std.specs.Int.{bit_at, trailing_zeros, w128}
use Rattle.rate_expr.proofs.MaskMembers.{has_zero}
use Rattle.rate_expr.specs.Sets.{Has}

-- a number is below another or not
pub below_or_not : (i n : ℕ) → (i < n) ⊎ (n ≤ i)
below_or_not i zero = inr (omega arith)
below_or_not zero (suc n) = inl (omega arith)
below_or_not (suc i) (suc n) =
    elim (below_or_not i n) [ inl below ↦ inl (omega arith) | inr not_below ↦ inr (omega arith) ]

-- one below the next is the number or below it
pub below-more : (i n : ℕ) → i < n + 1 → (i ≡ n) ⊎ (i < n)
below-more i n below = let most : i ≤ n = omega arith in eq-or-lt_of_le most

-- the positions of both masks
pub has-and : (a b position : ℕ) → Has (bit_and a b) position → Has a position × Has b position
has-and a b position has = (
  omega (arith, bit_at_and a b position, bit_at-lt a position, bit_at-lt b position),
  omega (arith, bit_at_and a b position, bit_at-lt a position, bit_at-lt b position),
)

pub has-and_both :
    (a b position : ℕ) → Has a position → Has b position → Has (bit_and a b) position
has-and_both a b position has also = omega (arith, bit_at_and a b position)

-- a mask that is not empty has a lowest position
pub has-lowest : (mask : ℕ) → 0 < mask → mask < 2 ^ 128 → Has mask (trailing_zeros w128 mask)
has-lowest mask some fits = (bit_at-trailing_zeros w128 mask some fits).1

-- a mask below a power has no position from it on
pub has-below : (mask count position : ℕ) → mask < 2 ^ count → Has mask position → position < count
has-below mask count position within has = elim (below_or_not position count) [
  | inl below ↦ below
  | inr above ↦ absurd (omega (arith, bit_at_above mask count position within above, has))
]

-- and one whose positions are all below is below
pub below-has :
    (mask count : ℕ) → ((position : ℕ) → Has mask position → position < count) → mask < 2 ^ count
below-has mask count all =
    subst (λ (m : ℕ). m < 2 ^ count) (sym (same_from_bits mask (mask % 2 ^ count) same))
    (mod-lt mask (pow_pos count))
  where
    none_above : (i : ℕ) → count ≤ i → bit_at mask i ≡ 0
    none_above i above = elim (eqb_tells (bit_at mask i) 1) [
      | inl one ↦ let low = all i one.1 in absurd (omega arith)
      | inr other ↦ let not_one = other.1 in omega (arith, bit_at-lt mask i)
    ]

    whole : mask / 2 ^ count * 2 ^ count + mask % 2 ^ count ≡ mask
    whole =
        ap (λ m. m + mask % 2 ^ count) (mul_comm (mask / 2 ^ count) (2 ^ count))
        ∙ div-add-mod mask (2 ^ count)

    same : (i : ℕ) → bit_at mask i ≡ bit_at (mask % 2 ^ count) i
    same i = elim (below_or_not i count) [
      | inl low ↦ ap (λ m. bit_at m i) (sym whole)
          ∙ bit_at_cat_low (mask / 2 ^ count) count (mask % 2 ^ count) i low
      | inr high ↦ none_above i high
          ∙ sym (bit_at_above (mask % 2 ^ count) count i (mod-lt mask (pow_pos count)) high)
    ]

-- masks with the same positions are one
pub same-has : (a b : ℕ) → ((position : ℕ) → Has a position ↔ Has b position) → a ≡ b
same-has a b same = same_from_bits a b (λ i. elim (eqb_tells (bit_at a i) 1) [
  | inl one ↦ one.1 ∙ sym ((same i).0 one.1)
  | inr other ↦ elim (eqb_tells (bit_at b i) 1) [
    | inl one ↦ absurd (other.1 ((same i).1 one.1))
    | inr neither ↦
        let not_a = other.1 in
        let not_b = neither.1 in
        omega (arith, bit_at-lt a i, bit_at-lt b i)
  ]
])

-- two masks have a position in common
abbrev pub AreMeeting : ℕ → ℕ → Type 0
AreMeeting a b = (position : ℕ) × Has a position × Has b position

-- they do where the bits that they share make no 0
pub and-some : (a b : ℕ) → 0 < bit_and a b → b < 2 ^ 128 → AreMeeting a b
and-some a b some fits =
    let less : bit_and a b < 2 ^ 128 = omega (arith, and_le_r a b) in
    let low = trailing_zeros w128 (bit_and a b) in
    let both = has-and a b low (has-lowest (bit_and a b) some less) in
    (low, both.0, both.1)

-- and where the first is the one that is known to fit
pub and-some_first : (a b : ℕ) → 0 < bit_and a b → a < 2 ^ 128 → AreMeeting a b
and-some_first a b some fits =
    let less : bit_and a b < 2 ^ 128 = omega (arith, and_le_l a b) in
    let low = trailing_zeros w128 (bit_and a b) in
    let both = has-and a b low (has-lowest (bit_and a b) some less) in
    (low, both.0, both.1)

-- and do not where they make 0
pub and-none : (a b : ℕ) → bit_and a b ≡ 0 → AreMeeting a b → ⊥
and-none a b none (position, has, also) =
    has_zero position (subst (λ (m : ℕ). Has m position) none (has-and_both a b position has also))

-- so the test of these bits decides it
pub and-meeting : (a b : ℕ) → b < 2 ^ 128 → IsTrue (not (nat_eq (bit_and a b) 0)) ↔ AreMeeting a b
and-meeting a b fits = (
  λ test. let some : 0 < bit_and a b = grind (arith, nat_tests) in and-some a b some fits,
  λ meeting. elim (below_or_not 0 (bit_and a b)) [
    | inl some ↦ grind (arith, nat_tests)
    | inr none ↦ absurd (and-none a b (omega arith) meeting)
  ],
)

-- the same where an answer says which of both
pub overlap_decides : (first second : ℕ) (test : Bool) → MatchBool test (AreMeeting first second)
    ((position : ℕ) → Has first position → Has second position → ⊥)
    → IsTrue test ↔ AreMeeting first second
overlap_decides first second true some = (λ is. some, λ meeting. refl)
overlap_decides first second false none =
    (λ is. cc, λ meeting. absurd (none meeting.0 meeting.1 meeting.2))

-- the test of these bits says so
pub overlap_says : (first second : ℕ) → first < 2 ^ 128
    → MatchBool (not (nat_eq (bit_and first second) 0)) (AreMeeting first second)
    ((position : ℕ) → Has first position → Has second position → ⊥)
overlap_says first second fits = go (nat_eq (bit_and first second) 0) refl
  where
    go : (none : Bool) → nat_eq (bit_and first second) 0 ≡ none
        → MatchBool (not none) (AreMeeting first second)
        ((position : ℕ) → Has first position → Has second position → ⊥)
    go true e = λ position has also. and-none first second (eqb-true _ 0 e) (position, has, also)
    go false e = let some = eqb-false _ 0 e in
        let meeting = and-some_first first second (omega (arith, some)) fits in meeting

-- a position in a mask is below the end of its bits
pub below_end : (mask position : ℕ) → mask < 2 ^ 128 → Has mask position
    → position < 128 - count_leading_zeros 128 mask
below_end mask position fits has =
    let bits = leading_length 128 mask fits in
    elim (below_or_not position bits.0) [
      | inl below ↦ omega arith
      | inr past ↦ absurd (omega (arith, bit_at_above mask bits.0 position bits.2 past))
    ]

-- and that is the least such bound
pub end_least : (mask bound : ℕ) → mask < 2 ^ 128 → mask < 2 ^ bound
    → 128 - count_leading_zeros 128 mask ≤ bound
end_least mask bound fits below =
    let bits = leading_length 128 mask fits in
    elim (below_or_not bound bits.0) [
      | inr enough ↦ omega arith
      | inl short ↦
          let higher : 2 ^ suc bound ≤ 2 ^ bits.0 = pow_mono (omega arith) in
          let twice : 2 ^ suc bound ≡ 2 ^ bound * 2 = pow-suc 2 bound in
          absurd (omega arith)
    ]

-- a mask is below a power where its end is no higher
pub end_below : (mask bound end : ℕ)
    → ((position : ℕ) → Has mask position → position < end) → end ≤ bound → mask < 2 ^ bound
end_below mask bound end above le =
    below-has mask bound (λ position has. let less = above position has in omega arith)

-- a position past all bits is in no mask, and below 128 is no such position
pub far_position : (mask position : ℕ) → mask < 2 ^ 128 → 128 ≤ position
    → IsTrue (ltb position 128) ↔ Has mask position
far_position mask position fits far = (
  (λ below. let lt = ltb-true position 128 below in absurd (omega arith)),
  (λ has. let lt = has-below mask 128 position fits has in absurd (omega arith)),
)
