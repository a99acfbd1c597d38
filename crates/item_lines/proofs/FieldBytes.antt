-- The texts of numbers have digits, signs and points alone.
use Rattle.std.proofs.Common.{◌≡◌, ℕ, zero, suc, ◌-◌, ◌/◌, ◌%◌, ◌^◌, ◌<◌, ◌&&◌, ℤ, pos, negsuc}
use Rattle.std.proofs.Common.{Bool, true, false, nat_lt, List, [], ◌∷◌, ◌++◌, length, codes}
use Rattle.std.proofs.Common.{replicate, unsigned_abs, refl, ◌∙◌, arith}
use Rattle.std.specs.Char.{is_ascii_digit}
use Rattle.std.specs.Fmt.{decimal, sign_text, signed_decimal}
use Rattle.std.specs.Int.{is_negative}
use Rattle.std.specs.List.{list_all, list_any}
use Rattle.std.specs.Str.Parse.{IsNumeral}
use Rattle.std.proofs.lemmas.Bool.{and_from, and_parts}
use Rattle.std.proofs.lemmas.Bool.Decides.{nat_tests}
use Rattle.std.proofs.lemmas.Fmt.{decimal_is_IsNumeral}
use Rattle.std.proofs.lemmas.List.Folds.{list_all-append}
use Rattle.line_reader.proofs.Numerals.{numeral_passes}
use Rattle.item_schema.specs.declared.column.Kind.{Kind}
use Rattle.item_schema.specs.declared.column.Kind.TheVariants.{Int, Fixed, Text, Number, Table}
use Rattle.item_lines.specs.Lines.{in_digits, is_delimiter, number_text}

-- a byte of ASCII above a comma: no delimiter, and no part of a byte order mark
abbrev pub is_field_byte : ℕ → Bool
is_field_byte byte = nat_lt 44 byte && nat_lt byte 128

-- bytes of these
abbrev pub is_field : List ℕ → Bool
is_field text = list_all is_field_byte text

-- what passes one test passes another
all_pass : (p q : ℕ → Bool) → ((x : ℕ) → p x ≡ true → q x ≡ true) → (xs : List ℕ)
    → list_all p xs ≡ true → list_all q xs ≡ true
all_pass p q passes [] are = refl
all_pass p q passes (x ∷ xs) are =
    let parts = and_parts (p x) (list_all p xs) are in
    and_from (q x) (list_all q xs) (passes x parts.0) (all_pass p q passes xs parts.1)

-- none passes a test where all pass another
none_passes : (p q : ℕ → Bool) → ((x : ℕ) → p x ≡ true → q x ≡ false) → (xs : List ℕ)
    → list_all p xs ≡ true → list_any q xs ≡ false
none_passes p q passes [] are = refl
none_passes p q passes (x ∷ xs) are =
    let parts = and_parts (p x) (list_all p xs) are in
    rw (passes x parts.0) (none_passes p q passes xs parts.1)

no_delimiter : (byte : ℕ) → is_field_byte byte ≡ true → is_delimiter byte ≡ false
no_delimiter byte is = grind (arith, nat_tests)

-- none of them is a delimiter
pub no_delimiters : (text : List ℕ) → is_field text ≡ true → list_any is_delimiter text ≡ false
no_delimiters text are = none_passes is_field_byte is_delimiter no_delimiter text are

-- such bytes one after the other
joined : (front rest : List ℕ) → is_field front ≡ true → is_field rest ≡ true
    → is_field (front ++ rest) ≡ true
joined front rest are others =
    list_all-append is_field_byte front rest ∙ and_from (is_field front) (is_field rest) are others

-- digits are such bytes
digit_is : (byte : ℕ) → is_ascii_digit byte ≡ true → is_field_byte byte ≡ true
digit_is byte is = grind (arith, nat_tests)

numeral_is : (digits : List ℕ) → IsNumeral 10 digits → is_field digits ≡ true
numeral_is digits numeral =
    all_pass is_ascii_digit is_field_byte digit_is digits
    (and_parts (nat_lt 0 (length digits)) (list_all is_ascii_digit digits)
    (numeral_passes digits numeral)).1

decimal_is : (number : ℕ) → number < 2 ^ 64 → is_field (decimal number) ≡ true
decimal_is number small = numeral_is (decimal number) (decimal_is_IsNumeral number small).0

-- zeros too
zeros_are : (zeros : ℕ) → is_field (replicate zeros 48) ≡ true
zeros_are zero = refl
zeros_are (suc zeros) = zeros_are zeros

-- and a sign
sign_is : (negative : Bool) → is_field (sign_text negative) ≡ true
sign_is true = refl
sign_is false = refl

whole_is : (number : ℤ) → unsigned_abs number < 2 ^ 64 → is_field (signed_decimal number) ≡ true
whole_is (pos n) small = decimal_is n small
whole_is (negsuc n) small = decimal_is (suc n) small

fixed_is : (places size : ℕ) (negative : Bool) → size < 2 ^ 64
    → is_field (sign_text negative ++ decimal (size / 10 ^ places) ++ codes "."
    ++ in_digits places (size % 10 ^ places)) ≡ true
fixed_is places size negative small =
    let whole = decimal (size / 10 ^ places) in
    let rest = decimal (size % 10 ^ places) in
    let zeros = places - length rest in
    let whole_is : is_field whole ≡ true = decimal_is (size / 10 ^ places) (omega arith) in
    let rest_is : is_field rest ≡ true = decimal_is (size % 10 ^ places) (omega arith) in
    joined (sign_text negative ++ whole ++ codes ".") (in_digits places (size % 10 ^ places))
    (joined (sign_text negative ++ whole) (codes ".")
    (joined (sign_text negative) whole (sign_is negative) whole_is) refl)
    (joined (replicate zeros 48) rest (zeros_are zeros) rest_is)

-- the text of a number has such bytes alone
pub number_is : (kind : Kind) (number : ℤ) → unsigned_abs number < 2 ^ 64
    → is_field (number_text kind number) ≡ true
number_is (Fixed places) number small =
    fixed_is places (unsigned_abs number) (is_negative number) small
number_is Int number small = whole_is number small
number_is Text number small = whole_is number small
number_is Number number small = whole_is number small
number_is Table number small = whole_is number small

-- a whole number is not empty
whole_is_some : (number : ℤ) → unsigned_abs number < 2 ^ 64 → 0 < length (signed_decimal number)
whole_is_some (pos n) small = (decimal_is_IsNumeral n small).0.0
whole_is_some (negsuc n) small = omega arith

-- and neither is any
pub number_is_some : (kind : Kind) (number : ℤ) → unsigned_abs number < 2 ^ 64
    → 0 < length (number_text kind number)
number_is_some (Fixed places) number small =
    after (sign_text (is_negative number) ++ decimal (unsigned_abs number / 10 ^ places)) _
  where
    after : (front rest : List ℕ) → 0 < length ((front ++ codes ".") ++ rest)
    after [] rest = omega arith
    after (byte ∷ front) rest = omega arith
number_is_some Int number small = whole_is_some number small
number_is_some Text number small = whole_is_some number small
number_is_some Number number small = whole_is_some number small
number_is_some Table number small = whole_is_some number small
