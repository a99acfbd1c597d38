-- A line that writes a number is the only text in it.
use Rattle.std.proofs.Common.{◌≡◌, ℕ, ◌<◌, ◌==◌, Bool, true, false, ◌||◌, nat_lt, List, []}
use Rattle.std.proofs.Common.{◌∷◌, ◌++◌, length, length-append, Option, Some, None, Ok, refl, sym}
use Rattle.std.proofs.Common.{ap, ◌∙◌, inl, inr, arith}
use Rattle.std.specs.Char.{is_ascii_digit}
use Rattle.std.specs.List.{list_all, list_any, starts_with}
use Rattle.std.specs.Prelude.{ℤ}
use Rattle.std.specs.Option.{IfSome}
use Rattle.std.specs.Str.Parse.{signed_digits_value, without_leading_sign}
use Rattle.std.proofs.lemmas.Bool.{and_from, and_parts}
use Rattle.std.proofs.lemmas.Bool.Decides.{nat_tests}
use Rattle.std.proofs.lemmas.List.Folds.{list_all-append}
use Rattle.std.proofs.lemmas.List.Splits.{slice_split_none}
use Rattle.value_ops.specs.declared.field.Field.{Field}
use Rattle.item_schema.specs.declared.column.Column.{Column}
use Rattle.item_schema.specs.declared.column.Kind.TheVariants.{Int, Fixed}
use Rattle.line_reader.specs.declared.stop.Cause.TheVariants as cause
use Rattle.line_reader.specs.CutLines.{is_comma, mark, texts_in}
use Rattle.line_reader.specs.LineParts.{is_special}
use Rattle.line_reader.specs.Reading.{field_of, fraction_of, is_decimal, is_numeral}
use Rattle.line_reader.specs.Reading.{is_point, item_of, stored, whole_of}
use Rattle.line_reader.specs.Written.{IsFraction, Sign, sign_bytes}
use Rattle.line_reader.specs.Written.Sign.{Absent, Plus, Minus}
use Rattle.line_reader.proofs.Cuts.{All-none}
use Rattle.line_reader.proofs.CutLines.{cut_item_of, strip_bom-none}
use Rattle.line_reader.proofs.Items.{passes_is}
use Rattle.line_reader.proofs.Numerals.{cut_point, cut_sign, numeral_passes}
use Rattle.line_reader.proofs.PlainLines.{no_break, plain_texts_in}

-- a byte of a number
abbrev is_written : ℕ → Bool
is_written byte = is_ascii_digit byte || (byte == 43 || (byte == 45 || byte == 46))

-- none of these is a quote or a line break
no_special : (line : List ℕ) → list_all is_written line ≡ true → list_any is_special line ≡ false
no_special [] are = refl
no_special (byte ∷ line) are =
    let parts = and_parts (is_written byte) (list_all is_written line) are in
    grind (arith, nat_tests, parts.0, no_special line parts.1)

-- nor a comma
no_comma : (line : List ℕ) → list_all is_written line ≡ true → list_any is_comma line ≡ false
no_comma [] are = refl
no_comma (byte ∷ line) are =
    let parts = and_parts (is_written byte) (list_all is_written line) are in
    grind (arith, nat_tests, parts.0, no_comma line parts.1)

-- nor the first of a byte order mark
no_mark : (line : List ℕ) → list_all is_written line ≡ true → starts_with ◌==◌ line mark ≡ false
no_mark [] are = refl
no_mark (byte ∷ line) are =
    let first = (and_parts (is_written byte) (list_all is_written line) are).0 in
    grind (arith, nat_tests, first)

-- the item of the only column
written_item : (column : Column) (line : List ℕ) (field : Field) → list_all is_written line ≡ true
    → 0 < length line → field_of column.kind line ≡ Ok field
    → item_of (column ∷ []) line ≡ Ok (field ∷ [])
written_item column line field are some is =
    let none = no_special line are in
    let texts : texts_in line ≡ line ∷ [] =
    plain_texts_in line none
    ∙ slice_split_none is_comma line (All-none is_comma line (no_comma line are))
    in
    cut_item_of (column ∷ []) line line (sym (strip_bom-none line (no_mark line are))) some
    (no_break line none) (ap length texts) ∙ rw (texts, is) refl

-- digits are bytes of a number
digits_written : (digits : List ℕ) → list_all is_ascii_digit digits ≡ true
    → list_all is_written digits ≡ true
digits_written [] are = refl
digits_written (digit ∷ digits) are =
    let parts = and_parts (is_ascii_digit digit) (list_all is_ascii_digit digits) are in
    grind (arith, nat_tests, parts.0, digits_written digits parts.1)

-- so is a sign
sign_written : (sign : Sign) → list_all is_written (sign_bytes sign) ≡ true
sign_written Absent = refl
sign_written Plus = refl
sign_written Minus = refl

-- one and the other
both_written : (front back : List ℕ) → list_all is_written front ≡ true
    → list_all is_written back ≡ true → list_all is_written (front ++ back) ≡ true
both_written front back first second =
    list_all-append is_written front back
    ∙ and_from (list_all is_written front) (list_all is_written back) first second

-- the bytes of a numeral
numeral_written : (digits : List ℕ) → is_numeral digits ≡ true
    → (list_all is_written digits ≡ true) × (0 < length digits)
numeral_written digits form =
    let parts = and_parts (nat_lt 0 (length digits)) (list_all is_ascii_digit digits) form in
    (digits_written digits parts.1, grind (arith, nat_tests, parts.0))

-- and of what stands after it
fraction_written : (after digits : List ℕ) → IsFraction after digits
    → list_all is_written after ≡ true
fraction_written after digits (inl none) = rw none.0 refl
fraction_written after digits (inr some) =
    rw some.0 (numeral_written digits (numeral_passes digits some.1)).0

-- what is written after a sign
record IsWritten (line : List ℕ) : Type 0 where
  pub bytes : list_all is_written line ≡ true
  pub some : 0 < length line

signed_written : (line : List ℕ) → list_all is_written (without_leading_sign line) ≡ true
    → 0 < length (without_leading_sign line) → IsWritten line
signed_written line are some =
    let cut = cut_sign line in
    record {
      bytes = rw cut.spelled (both_written (sign_bytes cut.sign) (without_leading_sign line)
          (sign_written cut.sign) are);
      some = omega (
        arith,
        ap length cut.spelled,
        length-append (sign_bytes cut.sign) (without_leading_sign line),
        some,
      );
    }

-- a whole number
whole_written : (line : List ℕ) → is_numeral (without_leading_sign line) ≡ true → IsWritten line
whole_written line form =
    let written = numeral_written (without_leading_sign line) form in
    signed_written line written.0 written.1

-- a decimal number
decimal_written : (line : List ℕ) → is_decimal line ≡ true → IsWritten line
decimal_written line form =
    let parts = and_parts (is_numeral (whole_of line)) _ form in
    let whole = numeral_written (whole_of line) parts.0 in
    let point = cut_point (without_leading_sign line)
    (list_any is_point (without_leading_sign line)) refl parts.1 in
    signed_written line
    (rw point.spelled (both_written (whole_of line) point.after whole.0
    (fraction_written point.after (fraction_of line) point.point)))
    (omega (arith, ap length point.spelled, length-append (whole_of line) point.after, whole.1))

-- the item of a whole number
pub whole_item : (column : Column) (line : List ℕ) (field : Field) → column.kind ≡ Int
    → field_of Int line ≡ Ok field → item_of (column ∷ []) line ≡ Ok (field ∷ [])
whole_item column line field kind is =
    let passes = passes_is (is_numeral (without_leading_sign line))
    (stored (signed_digits_value 10 line)) cause.Number field is in
    let written = whole_written line passes.0 in
    written_item column line field written.bytes written.some (rw kind is)

-- and of a decimal number
pub decimal_item : (column : Column) (places : ℕ) (line : List ℕ) (field : Field)
    → column.kind ≡ Fixed places → field_of (Fixed places) line ≡ Ok field
    → item_of (column ∷ []) line ≡ Ok (field ∷ [])
decimal_item column places line field kind is =
    let passes = passes_is (is_decimal line) _ cause.Number field is in
    let written = decimal_written line passes.0 in
    written_item column line field written.bytes written.some (rw kind is)

-- what is said of a number that is read
pub if_number : (P Q : ℤ → Type 0) (found : Option ℤ) → ((number : ℤ) → P number → Q number)
    → IfSome found P → IfSome found Q
if_number P Q (Some number) more is = more number is
if_number P Q None more is = tt
