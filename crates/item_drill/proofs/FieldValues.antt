-- The fields that drilled texts write.
use Rattle.std.proofs.Common.{◌≡◌, ℕ, zero, suc, ◌+◌, ◌-◌, ◌*◌, ◌/◌, ◌%◌, ◌^◌, ◌<◌, ◌≤◌, ◌&&◌, ℤ}
use Rattle.std.proofs.Common.{pos, negsuc, neg_ℤ, inr, Bool, true, false, nat_lt, IsTrue, List, []}
use Rattle.std.proofs.Common.{◌∷◌, ◌++◌, length, codes, replicate, unsigned_abs, refl, sym, ap, ◌∙◌}
use Rattle.std.proofs.Common.{append_assoc, FitsSigned, w64, arith}
use Rattle.std.specs.Char.{is_ascii_digit}
use Rattle.std.specs.Fmt.{decimal, sign_text, signed_decimal}
use Rattle.std.specs.Int.{is_negative}
use Rattle.std.specs.List.{list_all}
use Rattle.std.specs.Str.Parse.{IsNumeral, digits_value}
use Rattle.std.proofs.Math.Nat.{one-le-pow}
use Rattle.std.proofs.lemmas.Bool.{and_from, and_parts}
use Rattle.std.proofs.lemmas.Bool.Decides.{nat_tests}
use Rattle.std.proofs.lemmas.Fmt.{decimal_is_IsNumeral, length-decimal-le}
use Rattle.std.proofs.lemmas.Int.{ints}
use Rattle.std.proofs.lemmas.List.{length-append, length-replicate}
use Rattle.std.proofs.lemmas.List.Folds.{list_all-append}
use Rattle.line_reader.proofs.Numerals.{numeral_from_test, numeral_passes}
use Rattle.line_reader.proofs.Sizes.{digits_value_after-append, digits_value_after-shift}
use Rattle.item_schema.specs.declared.column.Kind.{Kind}
use Rattle.item_schema.specs.declared.column.Kind.TheVariants.{Int, Fixed, Text, Number, Table}
use Rattle.item_schema.specs.Layout.{has_digits, is_read}
use Rattle.line_reader.specs.Written.{Sign, WritesDecimal, WritesWhole, Writes, sign_bytes}
use Rattle.line_reader.specs.Written.{with_sign}
use Rattle.line_reader.specs.Written.Sign.{Absent, Minus}
use Rattle.item_drill.specs.Fields.{field_of, field_text, fixed_text, in_digits, number_of}
use Rattle.item_drill.proofs.FieldBytes.{number_is_small}

-- a decimal number is read back
read_back : (n : ℕ) → n ≤ 1000 → IsNumeral 10 (decimal n) × (digits_value 10 (decimal n) ≡ n)
read_back n small = decimal_is_IsNumeral n (omega arith)

-- a whole number is written by its text
whole_writes : (number : ℤ) → unsigned_abs number ≤ 1000
    → WritesWhole (signed_decimal number) number
whole_writes (pos n) small =
    let back = read_back n small in
    record {
      sign = Absent;
      digits = decimal n;
      spelled = refl;
      numeral = back.0;
      value = ap pos (sym back.1);
    }
whole_writes (negsuc n) small =
    let back = read_back (suc n) small in
    let value = ap (λ (v : ℕ). neg_ℤ (pos v)) (sym back.1) in
    record {
      sign = Minus;
      digits = decimal (suc n);
      spelled = refl;
      numeral = back.0;
      value = value;
    }

-- it fits
number_fits : (number : ℤ) → unsigned_abs number ≤ 1000 → FitsSigned w64 number
number_fits (pos n) small = omega (arith, ints)
number_fits (negsuc n) small = omega (arith, ints)

-- zeros in front of digits do not change their value
zeros_in_front : (zeros : ℕ) (digits : List ℕ)
    → digits_value 10 (replicate zeros 48 ++ digits) ≡ digits_value 10 digits
zeros_in_front zero digits = refl
zeros_in_front (suc zeros) digits = zeros_in_front zeros digits

-- they are digits
zeros_are_digits : (zeros : ℕ) → list_all is_ascii_digit (replicate zeros 48) ≡ true
zeros_are_digits zero = refl
zeros_are_digits (suc zeros) = zeros_are_digits zeros

-- a number below this many tens, in as many digits
pub record IsInDigits (places number : ℕ) : Type 0 where
  pub numeral : IsNumeral 10 (in_digits places number)
  pub long : length (in_digits places number) ≡ places
  pub value : digits_value 10 (in_digits places number) ≡ number

-- zeros in front of this many digits in all
filled : (places : ℕ) (digits : List ℕ) → length digits ≤ places
    → length (replicate (places - length digits) 48 ++ digits) ≡ places
filled places digits short =
    length-append (replicate (places - length digits) 48) digits
    ∙ ap (λ (n : ℕ). n + length digits) (length-replicate (places - length digits) 48) ∙ omega arith

-- they are a numeral
numeral_after : (zeros : ℕ) (digits : List ℕ) → IsNumeral 10 digits
    → IsNumeral 10 (replicate zeros 48 ++ digits)
numeral_after zeros digits numeral =
    let front = replicate zeros 48 in
    let some : 0 < length (front ++ digits) =
    omega (arith, length-append front digits, numeral.0) in
    let are = and_parts (nat_lt 0 (length digits)) (list_all is_ascii_digit digits)
    (numeral_passes digits numeral) in
    let both : list_all is_ascii_digit (front ++ digits) ≡ true =
    list_all-append is_ascii_digit front digits
    ∙ and_from (list_all is_ascii_digit front) (list_all is_ascii_digit digits)
    (zeros_are_digits zeros) are.1
    in
    numeral_from_test (front ++ digits)
    (and_from (nat_lt 0 (length (front ++ digits))) _ (grind (arith, nat_tests, some)) both)

in_digits_is : (places number : ℕ) → 0 < places → number < 10 ^ places → number ≤ 1000
    → IsInDigits places number
in_digits_is places number some below small =
    let back = read_back number small in
    record {
      numeral = numeral_after (places - length (decimal number)) (decimal number) back.0;
      long =
          filled places (decimal number) (length-decimal-le places number some below (omega arith));
      value = zeros_in_front (places - length (decimal number)) (decimal number) ∙ back.1;
    }

-- the digits before a point and after it
whole_and_rest : (places size unit : ℕ) (whole rest : List ℕ) → digits_value 10 whole ≡ size / unit
    → digits_value 10 rest ≡ size % unit → length rest ≡ places → unit ≡ 10 ^ places
    → digits_value 10 (whole ++ rest) * 10 ^ (places - length rest) ≡ size
whole_and_rest places size unit whole rest is_whole is_rest long is_unit =
    let joined = digits_value_after-append 10 0 whole rest in
    let shifted = digits_value_after-shift (digits_value 10 whole) rest in
    rw (joined, shifted, is_whole, is_rest, long, ← is_unit, none) (omega arith)
  where
    none : places - places ≡ 0
    none = omega arith

-- a size with a sign is written with all places after the point
fixed_writes : (places size : ℕ) (number : ℤ) (sign : Sign) → 0 < places → size ≤ 1000
    → number ≡ with_sign sign size → WritesDecimal places
    (sign_bytes sign ++ decimal (size / 10 ^ places) ++ codes "."
    ++ in_digits places (size % 10 ^ places)) number
fixed_writes places size number sign some small is =
    let whole = decimal (size / 10 ^ places) in
    let rest = in_digits places (size % 10 ^ places) in
    let unit : 0 < 10 ^ places = omega (arith, one-le-pow places 10 (omega arith)) in
    let whole_back = read_back (size / 10 ^ places) (omega arith) in
    let rest_is = in_digits_is places (size % 10 ^ places) some (omega arith) (omega arith) in
    let value = whole_and_rest places size (10 ^ places) whole rest whole_back.1 rest_is.value
    rest_is.long refl in
    record {
      sign = sign;
      whole = whole;
      after = 46 ∷ rest;
      fraction = rest;
      spelled = apart (sign_bytes sign) whole rest;
      numeral = whole_back.0;
      point = inr (refl, rest_is.numeral);
      few = omega (arith, rest_is.long);
      value = is ∙ ap (with_sign sign) (sym value);
    }
  where
    apart : (a b c : List ℕ) → ((a ++ b) ++ 46 ∷ []) ++ c ≡ a ++ (b ++ 46 ∷ c)
    apart a b c = simp append_assoc

-- a number has no sign
not_negative : (n : ℕ) → is_negative (pos n) ≡ false
not_negative n = grind (arith, nat_tests)

-- a number of this many places is written by its text
decimal_writes : (places : ℕ) (number : ℤ) → 0 < places → unsigned_abs number ≤ 1000
    → WritesDecimal places (fixed_text places number) number
decimal_writes places (pos n) some small =
    rw (not_negative n) (fixed_writes places n (pos n) Absent some small refl)
decimal_writes places (negsuc n) some small =
    fixed_writes places (suc n) (negsuc n) Minus some small refl

-- a field's text writes the field
pub field_writes : (kind : Kind) (draw : ℕ) → IsTrue (has_digits kind && is_read kind)
    → Writes kind (field_text kind draw) (field_of kind draw)
field_writes Int draw may =
    let small = number_is_small draw in
    (whole_writes (number_of draw) small, number_fits (number_of draw) small)
field_writes (Fixed places) draw may =
    let small = number_is_small draw in
    let some : 0 < places = grind (arith, nat_tests) in
    (decimal_writes places (number_of draw) some small, number_fits (number_of draw) small)
field_writes Text draw may = refl
field_writes Number draw may = absurd (cc)
field_writes Table draw may = absurd (cc)

-- and is not empty
pub field_is_some : (kind : Kind) (draw : ℕ) → IsTrue (has_digits kind && is_read kind)
    → 0 < length (field_text kind draw)
field_is_some Int draw may = some (number_of draw) (number_is_small draw)
  where
    some : (number : ℤ) → unsigned_abs number ≤ 1000 → 0 < length (signed_decimal number)
    some (pos n) small = (read_back n small).0.0
    some (negsuc n) small = omega arith
field_is_some (Fixed places) draw may =
    after (sign_text (is_negative (number_of draw))
    ++ decimal (unsigned_abs (number_of draw) / 10 ^ places)) _
  where
    after : (front rest : List ℕ) → 0 < length ((front ++ codes ".") ++ rest)
    after [] rest = omega arith
    after (byte ∷ front) rest = omega arith
field_is_some Text draw may = omega arith
field_is_some Number draw may = absurd (cc)
field_is_some Table draw may = absurd (cc)

-- and is short
pub field_is_short : (kind : Kind) (draw : ℕ) → IsTrue (has_digits kind && is_read kind)
    → length (field_text kind draw) ≤ 15
field_is_short Int draw may = short (number_of draw) (number_is_small draw)
  where
    short : (number : ℤ) → unsigned_abs number ≤ 1000 → length (signed_decimal number) ≤ 15
    short (pos n) small =
        omega (arith, length-decimal-le 4 n (omega arith) (omega arith) (omega arith))
    short (negsuc n) small =
        omega (arith, length-decimal-le 4 (suc n) (omega arith) (omega arith) (omega arith))
field_is_short (Fixed places) draw may =
    let size = unsigned_abs (number_of draw) in
    let some : 0 < places = grind (arith, nat_tests) in
    let few : places ≤ 9 = grind (arith, nat_tests) in
    let unit : 0 < 10 ^ places = omega (arith, one-le-pow places 10 (omega arith)) in
    let small = number_is_small draw in
    let whole = length-decimal-le 4 (size / 10 ^ places) (omega arith) (omega arith)
    (omega arith) in
    let rest = in_digits_is places (size % 10 ^ places) some (omega arith) (omega arith) in
    short (is_negative (number_of draw)) _ _ whole (omega (arith, rest.long))
  where
    short : (negative : Bool) (whole rest : List ℕ) → length whole ≤ 4 → length rest ≤ 9
        → length (((sign_text negative ++ whole) ++ codes ".") ++ rest) ≤ 15
    short true whole rest few some = simp length-append (omega arith)
    short false whole rest few some = simp length-append (omega arith)
field_is_short Text draw may = omega arith
field_is_short Number draw may = absurd (cc)
field_is_short Table draw may = absurd (cc)
