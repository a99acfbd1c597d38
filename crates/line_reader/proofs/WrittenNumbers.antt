-- The numbers that texts write, and the tests of their forms.
use Rattle.std.proofs.Common.{◌≡◌, ℕ, ◌≤◌, ℤ, true, false, nat_lt, List, [], ◌++◌, length, refl}
use Rattle.std.proofs.Common.{sym, ap, ◌∙◌, arith}
use Rattle.std.specs.List.{list_all, list_any}
use Rattle.std.specs.Char.{is_ascii_digit}
use Rattle.std.specs.Str.Parse.{signed_digits_value, digits_value, without_leading_sign}
use Rattle.std.proofs.lemmas.List.{append-nil}
use Rattle.std.proofs.lemmas.Bool.{and_parts}
use Rattle.std.proofs.lemmas.Bool.Decides.{nat_tests}
use Rattle.line_reader.specs.Reading.{fraction_of, is_decimal, is_numeral, is_point, signed, units}
use Rattle.line_reader.specs.Reading.{whole_of}
use Rattle.line_reader.specs.Written.{WritesDecimal, WritesWhole, sign_bytes, with_sign}
use Rattle.line_reader.proofs.Numerals.{cut_point, cut_sign, numeral_from_test, numeral_passes}
use Rattle.line_reader.proofs.Numerals.{parts_from_fraction, signed-digits, units-whole}
use Rattle.line_reader.proofs.Numerals.{without_leading_sign-digits}

-- a text of the form of a whole number writes the number of its digits
pub whole_writes : (text : List ℕ) → is_numeral (without_leading_sign text) ≡ true
    → WritesWhole text (signed_digits_value 10 text)
whole_writes text form =
    let cut = cut_sign text in
    record {
      sign = cut.sign;
      digits = without_leading_sign text;
      spelled = cut.spelled;
      numeral = numeral_from_test (without_leading_sign text) form;
      value = cut.value (digits_value 10 (without_leading_sign text));
    }

-- and of a decimal number the one of its units
pub decimal_writes : (places : ℕ) (text : List ℕ) → is_decimal text ≡ true
    → length (fraction_of text) ≤ places
    → WritesDecimal places text (signed text (units places (whole_of text) (fraction_of text)))
decimal_writes places text form few =
    let parts = and_parts (is_numeral (whole_of text)) _ form in
    let cut = cut_sign text in
    let point = cut_point (without_leading_sign text)
    (list_any is_point (without_leading_sign text)) refl parts.1 in
    record {
      sign = cut.sign;
      whole = whole_of text;
      after = point.after;
      fraction = fraction_of text;
      spelled = cut.spelled ∙ ap (λ rest. sign_bytes cut.sign ++ rest) point.spelled;
      numeral = numeral_from_test (whole_of text) parts.0;
      point = point.point;
      few = few;
      value = cut.value _
          ∙ ap (with_sign cut.sign) (units-whole places (whole_of text) (fraction_of text) few);
    }

-- the tests of a text that writes a whole number
pub record HasWhole (text : List ℕ) (number : ℤ) : Type 0 where
  pub form : is_numeral (without_leading_sign text) ≡ true
  pub value : signed_digits_value 10 text ≡ number

pub whole_form : (text : List ℕ) (number : ℤ) → WritesWhole text number → HasWhole text number
whole_form text number writes =
    let spelled : text ≡ sign_bytes writes.sign ++ (writes.digits ++ []) =
    writes.spelled
    ∙ ap (λ digits. sign_bytes writes.sign ++ digits) (sym (append-nil writes.digits))
    in
    let digits : without_leading_sign text ≡ writes.digits =
    ap without_leading_sign spelled
    ∙ without_leading_sign-digits writes.sign writes.digits [] writes.numeral
    ∙ append-nil writes.digits
    in
    let value : signed text (digits_value 10 writes.digits) ≡ number =
    ap (λ text. signed text (digits_value 10 writes.digits)) spelled
    ∙ signed-digits writes.sign writes.digits [] (digits_value 10 writes.digits) writes.numeral
    ∙ sym writes.value
    in
    record {
      form = rw digits (numeral_passes writes.digits writes.numeral);
      value = rw digits value;
    }

-- and of one that writes a decimal number
pub record HasDecimal (places : ℕ) (text : List ℕ) (number : ℤ) : Type 0 where
  pub form : is_decimal text ≡ true
  pub few : nat_lt places (length (fraction_of text)) ≡ false
  pub value : signed text (units places (whole_of text) (fraction_of text)) ≡ number

pub decimal_form : (places : ℕ) (text : List ℕ) (number : ℤ) → WritesDecimal places text number
    → HasDecimal places text number
decimal_form places text number writes =
    let size = units places writes.whole writes.fraction in
    let rest : without_leading_sign text ≡ writes.whole ++ writes.after =
    ap without_leading_sign writes.spelled
    ∙ without_leading_sign-digits writes.sign writes.whole writes.after writes.numeral
    in
    let passes = numeral_passes writes.whole writes.numeral in
    let digits =
    (and_parts (nat_lt 0 (length writes.whole)) (list_all is_ascii_digit writes.whole) passes).1 in
    let parts = parts_from_fraction writes.whole writes.after writes.fraction digits writes.point in
    let few : nat_lt places (length writes.fraction) ≡ false =
    grind (arith, nat_tests, writes.few) in
    let value : signed text size ≡ number =
    ap (λ text. signed text size) writes.spelled
    ∙ signed-digits writes.sign writes.whole writes.after size writes.numeral
    ∙ ap (with_sign writes.sign) (units-whole places writes.whole writes.fraction writes.few)
    ∙ sym writes.value
    in
    record {
      form = rw (rest, parts.before, parts.after, passes, parts.form) refl;
      few = rw (rest, parts.after) few;
      value = rw (rest, parts.before, parts.after) value;
    }
