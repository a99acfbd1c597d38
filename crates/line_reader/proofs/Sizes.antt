-- Sizes of numbers, kept at the greatest of 64 bits.
use Rattle.std.proofs.Common.{◌≡◌, ℕ, suc, ◌+◌, ◌-◌, ◌*◌, ◌^◌, ◌<◌, ◌≤◌, min, true, List, [], ◌∷◌}
use Rattle.std.proofs.Common.{◌++◌, length, get_or, take, refl, ap, ◌∙◌, inl, inr, arith}
use Rattle.std.specs.Char.{digit_value, is_ascii_digit}
use Rattle.std.specs.Str.Parse.{digits_value, digits_value_after}
use Rattle.std.proofs.Math.Nat.{pow-suc, mul_comm}
use Rattle.std.proofs.lemmas.Nat.{pow-add, mul-le}
use Rattle.std.proofs.lemmas.Bool.{cases_lt, cases_eq}
use Rattle.std.proofs.lemmas.List.{take_more}
use Rattle.std.proofs.lemmas.Bool.Decides.{nat_tests}
use Rattle.line_reader.specs.Reading.{units}

-- digits after others
pub digits_value_after-append : (radix n : ℕ) (digits others : List ℕ)
    → digits_value_after radix n (digits ++ others)
    ≡ digits_value_after radix (digits_value_after radix n digits) others
digits_value_after-append radix n [] others = refl
digits_value_after-append radix n (digit ∷ digits) others =
    digits_value_after-append radix (n * radix + digit_value digit) digits others

-- the value of a digit
pub digit_value-digit : (byte : ℕ) → is_ascii_digit byte ≡ true → digit_value byte ≡ byte - 48
digit_value-digit byte is = grind (arith, nat_tests)

-- digits after others move these to the left
shift : (n value tens tens' rest rest' : ℕ) → tens' ≡ tens * 10
    → rest' ≡ (0 * 10 + value) * tens + rest → (n * 10 + value) * tens + rest ≡ n * tens' + rest'
shift n value tens tens' rest rest' e f = rw (e, f) (omega arith)

pub digits_value_after-shift : (n : ℕ) (digits : List ℕ)
    → digits_value_after 10 n digits ≡ n * 10 ^ length digits + digits_value 10 digits
digits_value_after-shift n [] = omega arith
digits_value_after-shift n (digit ∷ digits) =
    digits_value_after-shift (n * 10 + digit_value digit) digits
    ∙ shift n (digit_value digit) (10 ^ length digits) (10 ^ suc (length digits))
    (digits_value 10 digits) (digits_value 10 (digit ∷ digits)) (pow-suc 10 (length digits))
    (digits_value_after-shift (0 * 10 + digit_value digit) digits)

-- digits after others, and then zeros
pub digits_value_after-zeros : (whole places : ℕ) (fraction : List ℕ) → length fraction ≤ places
    → digits_value_after 10 whole fraction * 10 ^ (places - length fraction)
    ≡ whole * 10 ^ places + digits_value 10 fraction * 10 ^ (places - length fraction)
digits_value_after-zeros whole places fraction few =
    let places_are : 10 ^ places ≡ 10 ^ length fraction * 10 ^ (places - length fraction) =
    ap (λ n. 10 ^ n) (omega arith) ∙ pow-add 10 (length fraction) (places - length fraction)
    in
    rw (digits_value_after-shift whole fraction, places_are) (omega arith)

-- a product of a factor above what is kept
above : (most a b : ℕ) → 0 < most → most < a → 0 < b
    → min (min a most * min b most) most ≡ min (a * b) most
above most a b some over nonzero =
    let kept : min a most ≡ most = omega arith in
    rw kept (omega (
      arith,
      mul-le most 1 most (min b most) (omega arith) (omega arith),
      mul-le a 1 a b (omega arith) (omega arith),
    ))

-- nothing is kept as it is
nothing : (most : ℕ) → min 0 most ≡ 0
nothing most = omega arith

-- a product of kept factors is kept as the product is
pub min-mul-min : (most a b : ℕ) → 0 < most → min (min a most * min b most) most ≡ min (a * b) most
min-mul-min most a b some =
    elim (cases_lt most a) [
      | inl over ↦ elim (cases_eq b 0) [
        | inl none ↦ rw (none, nothing most) (omega arith)
        | inr nonzero ↦ above most a b some over (omega arith)
      ]
      | inr below ↦ elim (cases_lt most b) [
        | inl over ↦ elim (cases_eq a 0) [
          | inl none ↦ rw (none, nothing most) (omega arith)
          | inr nonzero ↦ rw (mul_comm a b, mul_comm (min a most))
              (above most b a some over (omega arith))
        ]
        | inr both ↦
            let a_kept : min a most ≡ a = omega arith in
            let b_kept : min b most ≡ b = omega arith in
            rw (a_kept, b_kept) refl
      ]
    ]

-- a turn of a loop over digits
pub digits_value_after-more : (n : ℕ) (digits : List ℕ) (i : ℕ) → i < length digits
    → is_ascii_digit (get_or digits i 0) ≡ true → digits_value_after 10 n (take (i + 1) digits)
    ≡ digits_value_after 10 n (take i digits) * 10 + (get_or digits i 0 - 48)
digits_value_after-more n digits i within is =
    rw (take_more digits i 0 within, digits_value_after-append 10 n (take i digits))
    (ap (λ v. digits_value_after 10 n (take i digits) * 10 + v) (digit_value-digit _ is))

-- the size of a decimal number from the kept sizes of its parts
pub units_kept : (most places : ℕ) (whole fraction : List ℕ) → 0 < most → length fraction ≤ places
    → min (min (digits_value_after 10 (digits_value 10 whole) fraction) most
    * min (10 ^ (places - length fraction)) most) most
    ≡ min (units places whole fraction) most
units_kept most places whole fraction some few =
    min-mul-min most (digits_value_after 10 (digits_value 10 whole) fraction)
    (10 ^ (places - length fraction)) some ∙ ap (λ size. min size most)
    (digits_value_after-zeros (digits_value 10 whole) places fraction few)
