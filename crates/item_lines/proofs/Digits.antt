-- Numbers are read back from their digits.
use Rattle.std.proofs.Common.{◌≡◌, ℕ, zero, suc, ◌+◌, ◌-◌, ◌*◌, ◌/◌, ◌%◌, ◌^◌, ◌<◌, ◌≤◌, true}
use Rattle.std.proofs.Common.{nat_lt, List, [], ◌∷◌, ◌++◌, length, replicate, refl, ap, ◌∙◌}
use Rattle.std.proofs.Common.{add-one, arith}
use Rattle.std.specs.Char.{is_ascii_digit}
use Rattle.std.specs.Fmt.{decimal}
use Rattle.std.specs.List.{list_all}
use Rattle.std.specs.Str.Parse.{IsNumeral, digits_value}
use Rattle.std.proofs.lemmas.Bool.{and_from, and_parts}
use Rattle.std.proofs.lemmas.Bool.Decides.{nat_tests}
use Rattle.std.proofs.lemmas.Fmt.{decimal_is_IsNumeral, length-decimal-le}
use Rattle.std.proofs.lemmas.List.{length-append, length-replicate}
use Rattle.std.proofs.lemmas.List.Folds.{list_all-append}
use Rattle.line_reader.proofs.Numerals.{numeral_from_test, numeral_passes}
use Rattle.line_reader.proofs.Sizes.{digits_value_after-append, digits_value_after-shift}
use Rattle.item_lines.specs.Lines.{in_digits}

-- one zero more after the others
pub replicate-push : (count digit : ℕ)
    → replicate (count + 1) digit ≡ replicate count digit ++ digit ∷ []
replicate-push count digit = rw add-one (onward count)
  where
    onward : (count : ℕ) → replicate (suc count) digit ≡ replicate count digit ++ digit ∷ []
    onward zero = refl
    onward (suc count) = ap (λ (l : List ℕ). digit ∷ l) (onward count)

-- zeros in front of digits do not change their value
zeros_in_front : (zeros : ℕ) (digits : List ℕ)
    → digits_value 10 (replicate zeros 48 ++ digits) ≡ digits_value 10 digits
zeros_in_front zero digits = refl
zeros_in_front (suc zeros) digits = zeros_in_front zeros digits

-- they are digits
zeros_are_digits : (zeros : ℕ) → list_all is_ascii_digit (replicate zeros 48) ≡ true
zeros_are_digits zero = refl
zeros_are_digits (suc zeros) = zeros_are_digits zeros

-- a number below this many tens, in as many digits
pub record IsInDigits (places number : ℕ) : Type 0 where
  pub numeral : IsNumeral 10 (in_digits places number)
  pub long : length (in_digits places number) ≡ places
  pub value : digits_value 10 (in_digits places number) ≡ number

-- zeros in front of this many digits in all
filled : (places : ℕ) (digits : List ℕ) → length digits ≤ places
    → length (replicate (places - length digits) 48 ++ digits) ≡ places
filled places digits short =
    length-append (replicate (places - length digits) 48) digits
    ∙ ap (λ (n : ℕ). n + length digits) (length-replicate (places - length digits) 48) ∙ omega arith

-- they are a numeral
numeral_after : (zeros : ℕ) (digits : List ℕ) → IsNumeral 10 digits
    → IsNumeral 10 (replicate zeros 48 ++ digits)
numeral_after zeros digits numeral =
    let front = replicate zeros 48 in
    let some : 0 < length (front ++ digits) =
    omega (arith, length-append front digits, numeral.0) in
    let are = and_parts (nat_lt 0 (length digits)) (list_all is_ascii_digit digits)
    (numeral_passes digits numeral) in
    let both : list_all is_ascii_digit (front ++ digits) ≡ true =
    list_all-append is_ascii_digit front digits
    ∙ and_from (list_all is_ascii_digit front) (list_all is_ascii_digit digits)
    (zeros_are_digits zeros) are.1
    in
    numeral_from_test (front ++ digits)
    (and_from (nat_lt 0 (length (front ++ digits))) _ (grind (arith, nat_tests, some)) both)

pub in_digits_is : (places number : ℕ) → 0 < places → number < 10 ^ places → number < 2 ^ 64
    → IsInDigits places number
in_digits_is places number some below fits =
    let back = decimal_is_IsNumeral number fits in
    record {
      numeral = numeral_after (places - length (decimal number)) (decimal number) back.0;
      long = filled places (decimal number) (length-decimal-le places number some below fits);
      value = zeros_in_front (places - length (decimal number)) (decimal number) ∙ back.1;
    }

-- the digits before a point and after it
pub whole_and_rest : (places size unit : ℕ) (whole rest : List ℕ)
    → digits_value 10 whole ≡ size / unit → digits_value 10 rest ≡ size % unit
    → length rest ≡ places → unit ≡ 10 ^ places
    → digits_value 10 (whole ++ rest) * 10 ^ (places - length rest) ≡ size
whole_and_rest places size unit whole rest is_whole is_rest long is_unit =
    let joined = digits_value_after-append 10 0 whole rest in
    let shifted = digits_value_after-shift (digits_value 10 whole) rest in
    rw (joined, shifted, is_whole, is_rest, long, ← is_unit, none) (omega arith)
  where
    none : places - places ≡ 0
    none = omega arith
