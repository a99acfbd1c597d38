-- The tests of numbers, and the parts that their texts have.
use Rattle.std.proofs.Common.{◌≡◌, ℕ, ◌-◌, ◌*◌, ◌^◌, ◌<◌, ◌≤◌, ◌==◌, inl, inr, Bool, true, false}
use Rattle.std.proofs.Common.{◌||◌, not, nat_lt, if◌then◌else◌, Some, None, List, [], ◌∷◌}
use Rattle.std.proofs.Common.{◌++◌, length, get_or, slice_index, refl, sym, ap, ◌∙◌, arith, rules}
use Rattle.std.specs.Char.{is_ascii_digit}
use Rattle.std.specs.List.{list_all, list_any, before_first, after_first, position_or_len}
use Rattle.std.specs.Str.Parse.{IsNumeral, digits_value, starts_with_minus, without_leading_sign}
use Rattle.std.proofs.lemmas.Bool.{and_parts, and_from, or_right}
use Rattle.std.proofs.lemmas.Bool.Decides.{nat_tests}
use Rattle.std.proofs.lemmas.Str.Parse.{IsDigitsTest, IsNumeralModel, digit_from_value}
use Rattle.std.proofs.lemmas.Str.Parse.{numerals_by_value}
use Rattle.std.proofs.lemmas.List.{append-nil}
use Rattle.std.proofs.lemmas.List.Folds.{list_all_at}
use Rattle.std.proofs.lemmas.List.Sums.{passes_at_first, split_at_first}
use Rattle.line_reader.proofs.Cuts.{after_first-front, before_first-front, before_first-none}
use Rattle.line_reader.proofs.Cuts.{is_found, nothing_after}
use Rattle.line_reader.proofs.Sizes.{digits_value_after-append, digits_value_after-zeros}
use Rattle.line_reader.specs.Reading.{fraction_of, is_decimal, is_numeral, is_point, signed, units}
use Rattle.line_reader.specs.Reading.{whole_of}
use Rattle.line_reader.specs.Written.{IsFraction, Sign, sign_bytes, with_sign}
use Rattle.line_reader.specs.Written.Sign.{Absent, Plus, Minus}

-- the test of all bytes finds the digits
decides_digits : IsDigitsTest (λ digits. list_all is_ascii_digit digits ≡ true)
decides_digits = search rules

digits_are : IsNumeralModel (λ digits. list_all is_ascii_digit digits ≡ true) (digits_value 10)
digits_are = numerals_by_value _ decides_digits

-- what passes the test is a numeral
pub numeral_from_test : (digits : List ℕ) → is_numeral digits ≡ true → IsNumeral 10 digits
numeral_from_test digits passes =
    let parts = and_parts (nat_lt 0 (length digits)) (list_all is_ascii_digit digits) passes in
    (grind (arith, nat_tests, parts.0), digits_are.to digits parts.1)

-- a numeral passes the test, and nothing with another byte does
pub numeral_passes : (digits : List ℕ) → IsNumeral 10 digits → is_numeral digits ≡ true
numeral_passes digits numeral =
    and_from (nat_lt 0 (length digits)) (list_all is_ascii_digit digits) (grind (arith, nat_tests))
    (digits_are.from digits numeral.1)

pub no_numeral : (digits : List ℕ) (i : ℕ) → i < length digits
    → is_ascii_digit (get_or digits i 0) ≡ false → is_numeral digits ≡ false
no_numeral digits i within other =
    let all = list_all_at is_ascii_digit digits i 0 within other in
    grind (arith, nat_tests, all)

-- a text, the sign that it begins with and what stands after it
pub record CutSign (text : List ℕ) : Type 0 where
  pub sign : Sign
  pub spelled : text ≡ sign_bytes sign ++ without_leading_sign text
  pub value : (size : ℕ) → signed text size ≡ with_sign sign size

-- each text has a sign or none
pub cut_sign : (text : List ℕ) → CutSign text
cut_sign [] = record { sign = Absent; spelled = refl; value = λ size. refl }
cut_sign (byte ∷ rest) = by_byte (byte == 45) (byte == 43) refl refl
  where
    by_byte : (minus plus : Bool) → (byte == 45) ≡ minus → (byte == 43) ≡ plus
        → CutSign (byte ∷ rest)
    by_byte true plus m p = record {
      sign = Minus;
      spelled = let is : byte ≡ 45 = grind (arith, nat_tests) in rw is refl;
      value = λ size. rw m refl;
    }
    by_byte false true m p = record {
      sign = Plus;
      spelled = let is : byte ≡ 43 = grind (arith, nat_tests) in rw is refl;
      value = λ size. rw m refl;
    }
    by_byte false false m p = record {
      sign = Absent;
      spelled = rw (m, p) refl;
      value = λ size. rw m refl;
    }

-- digits begin with no sign
no_sign : (digits after : List ℕ) → IsNumeral 10 digits
    → (starts_with_minus (digits ++ after) ≡ false)
    × ((slice_index (digits ++ after) 0 == 43) ≡ false)
no_sign [] after numeral = absurd (omega (arith, numeral.0))
no_sign (digit ∷ digits) after numeral =
    let range = digit_from_value digit numeral.1.0 in
    (grind (arith, nat_tests), grind (arith, nat_tests))

-- what stands after a sign, where it begins with digits
pub without_leading_sign-digits : (sign : Sign) (digits after : List ℕ) → IsNumeral 10 digits
    → without_leading_sign (sign_bytes sign ++ (digits ++ after)) ≡ digits ++ after
without_leading_sign-digits Absent digits after numeral =
    let none = no_sign digits after numeral in
    rw (none.0, none.1) refl
without_leading_sign-digits Plus digits after numeral = refl
without_leading_sign-digits Minus digits after numeral = refl

-- and the number with that sign
pub signed-digits : (sign : Sign) (digits after : List ℕ) (size : ℕ) → IsNumeral 10 digits
    → signed (sign_bytes sign ++ (digits ++ after)) size ≡ with_sign sign size
signed-digits Absent digits after size numeral = rw (no_sign digits after numeral).0 refl
signed-digits Plus digits after size numeral = refl
signed-digits Minus digits after size numeral = refl

-- a text cut at its point, if it has one
pub record CutPoint (text : List ℕ) : Type 0 where
  pub after : List ℕ
  pub spelled : text ≡ before_first is_point text ++ after
  pub point : IsFraction after (after_first is_point text)

-- where what stands after a point is a numeral
pub cut_point : (text : List ℕ) (found : Bool) → list_any is_point text ≡ found
    → (not found || is_numeral (after_first is_point text)) ≡ true → CutPoint text
cut_point text false is form = record {
  after = [];
  spelled = sym (append-nil (before_first is_point text) ∙ before_first-none is_point text is);
  point = inl (refl, nothing_after is_point text is);
}
cut_point text true is form =
    let within : position_or_len is_point text < length text =
    grind (arith, nat_tests, is_found is_point text) in
    let point : get_or text (position_or_len is_point text) 0 ≡ 46 =
    grind (arith, nat_tests, passes_at_first is_point text 0 within) in
    record {
      after = 46 ∷ after_first is_point text;
      spelled = split_at_first is_point text 0 within
          ∙ ap (λ byte. before_first is_point text ++ byte ∷ after_first is_point text) point;
      point = inr (refl, numeral_from_test (after_first is_point text) form);
    }

-- digits have no point
no_point : (digits : List ℕ) → list_all is_ascii_digit digits ≡ true
    → list_any is_point digits ≡ false
no_point [] are = refl
no_point (digit ∷ digits) are = grind (arith, nat_tests, no_point digits)

-- what a text has before its first point and after it
pub record HasParts (text whole fraction : List ℕ) : Type 0 where
  pub before : before_first is_point text ≡ whole
  pub after : after_first is_point text ≡ fraction
  pub form : (not (list_any is_point text) || is_numeral fraction) ≡ true

-- digits and a fraction are these
pub parts_from_fraction : (whole after fraction : List ℕ) → list_all is_ascii_digit whole ≡ true
    → IsFraction after fraction → HasParts (whole ++ after) whole fraction
parts_from_fraction whole after fraction digits (inl none) =
    let none_whole = no_point whole digits in
    rw (none.0, none.1, append-nil whole) (record {
      before = before_first-none is_point whole none_whole;
      after = nothing_after is_point whole none_whole;
      form = rw none_whole refl;
    })
parts_from_fraction whole after fraction digits (inr some) =
    let none_whole = no_point whole digits in
    rw some.0 (record {
      before = before_first-front is_point whole 46 fraction none_whole refl;
      after = after_first-front is_point whole 46 fraction none_whole refl;
      form = or_right (not (list_any is_point (whole ++ 46 ∷ fraction))) (is_numeral fraction)
          (numeral_passes fraction some.1);
    })

-- the size of a decimal number, in its smallest unit
pub units-whole : (places : ℕ) (whole fraction : List ℕ) → length fraction ≤ places
    → units places whole fraction
    ≡ digits_value 10 (whole ++ fraction) * 10 ^ (places - length fraction)
units-whole places whole fraction few =
    rw (digits_value_after-append 10 0 whole fraction)
    (sym (digits_value_after-zeros (digits_value 10 whole) places fraction few))

-- a text that is cut at its point is a decimal number where both parts are numerals
pub decimal_parts : (text whole fraction : List ℕ) → whole ≡ whole_of text
    → Some fraction
    ≡ (if list_any is_point (without_leading_sign text) then Some (fraction_of text) else None)
    → is_numeral whole ≡ true → is_numeral fraction ≡ true
    → (is_decimal text ≡ true) × (fraction ≡ fraction_of text)
decimal_parts text whole fraction before after first second = (form, same)
  where
    by_point : (found : Bool) → Some fraction ≡ (if found then Some (fraction_of text) else None)
        → fraction ≡ fraction_of text
    by_point true is = cc
    by_point false is = absurd (cc)

    same : fraction ≡ fraction_of text
    same = by_point (list_any is_point (without_leading_sign text)) after

    form : is_decimal text ≡ true
    form =
        and_from (is_numeral (whole_of text)) _ (ap is_numeral (sym before) ∙ first)
        (or_right (not (list_any is_point (without_leading_sign text)))
        (is_numeral (fraction_of text)) (ap is_numeral (sym same) ∙ second))
