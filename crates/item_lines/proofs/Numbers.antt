-- The texts of numbers write them.
use Rattle.std.proofs.Common.{◌≡◌, ℕ, suc, ◌/◌, ◌%◌, ◌^◌, ◌<◌, ◌&&◌, ℤ, pos, negsuc, neg_ℤ, inr}
use Rattle.std.proofs.Common.{false, IsTrue, List, [], ◌∷◌, ◌++◌, codes, unsigned_abs, refl, sym}
use Rattle.std.proofs.Common.{ap, ◌∙◌, append_assoc, FitsSigned, w64, arith}
use Rattle.std.specs.Fmt.{decimal, signed_decimal}
use Rattle.std.specs.Int.{is_negative}
use Rattle.std.proofs.Math.Nat.{one-le-pow}
use Rattle.std.proofs.lemmas.Bool.Decides.{nat_tests}
use Rattle.std.proofs.lemmas.Fmt.{decimal_is_IsNumeral}
use Rattle.std.proofs.lemmas.Int.{ints}
use Rattle.value_ops.specs.declared.field.Field.{Field}
use Rattle.value_ops.specs.declared.field.Field.TheVariants as field
use Rattle.item_schema.specs.declared.column.Kind.{Kind}
use Rattle.item_schema.specs.declared.column.Kind.TheVariants.{Int, Fixed, Text, Number, Table}
use Rattle.item_schema.specs.Items.{IsFieldOf}
use Rattle.item_schema.specs.Layout.{has_digits, is_read}
use Rattle.line_reader.specs.Written.{Sign, WritesDecimal, WritesWhole, Writes, sign_bytes}
use Rattle.line_reader.specs.Written.{with_sign}
use Rattle.line_reader.specs.Written.Sign.{Absent, Minus}
use Rattle.item_lines.specs.Lines.{fixed_text, in_digits}
use Rattle.item_lines.specs.RawTexts.{raw_text}
use Rattle.item_lines.proofs.Digits.{in_digits_is, whole_and_rest}

-- a number of 64 bits has no larger size
pub is_small : (number : ℤ) → FitsSigned w64 number → unsigned_abs number < 2 ^ 64
is_small (pos n) fits = omega (arith, ints)
is_small (negsuc n) fits = omega (arith, ints)

-- a whole number is written by its text
whole_writes : (number : ℤ) → unsigned_abs number < 2 ^ 64
    → WritesWhole (signed_decimal number) number
whole_writes (pos n) small =
    let back = decimal_is_IsNumeral n small in
    record {
      sign = Absent;
      digits = decimal n;
      spelled = refl;
      numeral = back.0;
      value = ap pos (sym back.1);
    }
whole_writes (negsuc n) small =
    let back = decimal_is_IsNumeral (suc n) small in
    let value = ap (λ (v : ℕ). neg_ℤ (pos v)) (sym back.1) in
    record {
      sign = Minus;
      digits = decimal (suc n);
      spelled = refl;
      numeral = back.0;
      value = value;
    }

-- a size with a sign is written with all places after the point
fixed_writes : (places size : ℕ) (number : ℤ) (sign : Sign) → 0 < places → size < 2 ^ 64
    → number ≡ with_sign sign size → WritesDecimal places
    (sign_bytes sign ++ decimal (size / 10 ^ places) ++ codes "."
    ++ in_digits places (size % 10 ^ places)) number
fixed_writes places size number sign some small is =
    let whole = decimal (size / 10 ^ places) in
    let rest = in_digits places (size % 10 ^ places) in
    let unit : 0 < 10 ^ places = omega (arith, one-le-pow places 10 (omega arith)) in
    let whole_back = decimal_is_IsNumeral (size / 10 ^ places) (omega arith) in
    let rest_is = in_digits_is places (size % 10 ^ places) some (omega arith) (omega arith) in
    let value = whole_and_rest places size (10 ^ places) whole rest whole_back.1 rest_is.value
    rest_is.long refl in
    record {
      sign = sign;
      whole = whole;
      after = 46 ∷ rest;
      fraction = rest;
      spelled = apart (sign_bytes sign) whole rest;
      numeral = whole_back.0;
      point = inr (refl, rest_is.numeral);
      few = omega (arith, rest_is.long);
      value = is ∙ ap (with_sign sign) (sym value);
    }
  where
    apart : (a b c : List ℕ) → ((a ++ b) ++ 46 ∷ []) ++ c ≡ a ++ (b ++ 46 ∷ c)
    apart a b c = simp append_assoc

-- a number has no sign
not_negative : (n : ℕ) → is_negative (pos n) ≡ false
not_negative n = grind (arith, nat_tests)

-- a number of this many places is written by its text
decimal_writes : (places : ℕ) (number : ℤ) → 0 < places → unsigned_abs number < 2 ^ 64
    → WritesDecimal places (fixed_text places number) number
decimal_writes places (pos n) some small =
    rw (not_negative n) (fixed_writes places n (pos n) Absent some small refl)
decimal_writes places (negsuc n) some small =
    fixed_writes places (suc n) (negsuc n) Minus some small refl

-- a field is written by its text, where that is read
pub field_writes : (kind : Kind) (one : Field) → IsTrue (has_digits kind && is_read kind)
    → IsFieldOf kind one → Writes kind (raw_text kind one) one
field_writes Int (field.Int number) may fits = (whole_writes number (is_small number fits), fits)
field_writes (Fixed places) (field.Int number) may fits =
    let some : 0 < places = grind (arith, nat_tests) in
    (decimal_writes places number some (is_small number fits), fits)
field_writes Text (field.Text text) may fits = refl
field_writes Number one may fits = absurd (cc)
field_writes Table one may fits = absurd (cc)
field_writes kind one may fits = absurd fits
