-- The bytes of drilled fields.
use Rattle.std.proofs.Common.{◌≡◌, ℕ, zero, suc, ◌-◌, ◌/◌, ◌%◌, ◌^◌, ◌<◌, ◌≤◌, ◌&&◌, ℤ, pos, negsuc}
use Rattle.std.proofs.Common.{Bool, true, false, nat_lt, List, [], ◌∷◌, ◌++◌, length, codes}
use Rattle.std.proofs.Common.{replicate, unsigned_abs, refl, ◌∙◌, arith}
use Rattle.std.specs.Char.{is_ascii_digit}
use Rattle.std.specs.Fmt.{decimal, sign_text, signed_decimal}
use Rattle.std.specs.Int.{is_negative}
use Rattle.std.specs.List.{list_all}
use Rattle.std.specs.Str.Parse.{IsNumeral}
use Rattle.std.proofs.lemmas.Bool.{and_from, and_parts}
use Rattle.std.proofs.lemmas.Bool.Decides.{nat_tests}
use Rattle.std.proofs.lemmas.Fmt.{decimal_is_IsNumeral}
use Rattle.std.proofs.lemmas.Int.{ints}
use Rattle.std.proofs.lemmas.List.Folds.{list_all-append}
use Rattle.line_reader.proofs.Numerals.{numeral_passes}
use Rattle.item_schema.specs.declared.column.Kind.{Kind}
use Rattle.item_schema.specs.declared.column.Kind.TheVariants.{Int, Fixed, Text, Number, Table}
use Rattle.item_drill.specs.Fields.{field_text, in_digits, number_of, word_of}

-- a byte of ASCII above a comma: no quote, no line break and no part of a byte order mark
abbrev pub is_field_byte : ℕ → Bool
is_field_byte byte = nat_lt 44 byte && nat_lt byte 128

-- bytes of these
abbrev pub is_field : List ℕ → Bool
is_field text = list_all is_field_byte text

-- what passes one test passes another
pub all_pass : (p q : ℕ → Bool) → ((x : ℕ) → p x ≡ true → q x ≡ true) → (xs : List ℕ)
    → list_all p xs ≡ true → list_all q xs ≡ true
all_pass p q passes [] are = refl
all_pass p q passes (x ∷ xs) are =
    let parts = and_parts (p x) (list_all p xs) are in
    and_from (q x) (list_all q xs) (passes x parts.0) (all_pass p q passes xs parts.1)

-- such bytes one after the other
joined : (front rest : List ℕ) → is_field front ≡ true → is_field rest ≡ true
    → is_field (front ++ rest) ≡ true
joined front rest are others =
    list_all-append is_field_byte front rest ∙ and_from (is_field front) (is_field rest) are others

-- digits are such bytes
digit_is : (byte : ℕ) → is_ascii_digit byte ≡ true → is_field_byte byte ≡ true
digit_is byte is = grind (arith, nat_tests)

numeral_is : (digits : List ℕ) → IsNumeral 10 digits → is_field digits ≡ true
numeral_is digits numeral =
    all_pass is_ascii_digit is_field_byte digit_is digits
    (and_parts (nat_lt 0 (length digits)) (list_all is_ascii_digit digits)
    (numeral_passes digits numeral)).1

decimal_is : (number : ℕ) → number < 2 ^ 64 → is_field (decimal number) ≡ true
decimal_is number small = numeral_is (decimal number) (decimal_is_IsNumeral number small).0

-- zeros too
zeros_are : (zeros : ℕ) → is_field (replicate zeros 48) ≡ true
zeros_are zero = refl
zeros_are (suc zeros) = zeros_are zeros

-- and a sign
sign_is : (negative : Bool) → is_field (sign_text negative) ≡ true
sign_is true = refl
sign_is false = refl

-- the numbers are small
pub number_is_small : (draw : ℕ) → unsigned_abs (number_of draw) ≤ 1000
number_is_small draw = omega (arith, ints)

whole_is : (number : ℤ) → unsigned_abs number ≤ 1000 → is_field (signed_decimal number) ≡ true
whole_is (pos n) small = decimal_is n (omega arith)
whole_is (negsuc n) small = decimal_is (suc n) (omega arith)

fixed_is : (places size : ℕ) (negative : Bool) → size ≤ 1000
    → is_field (sign_text negative ++ decimal (size / 10 ^ places) ++ codes "."
    ++ in_digits places (size % 10 ^ places)) ≡ true
fixed_is places size negative small =
    let whole = decimal (size / 10 ^ places) in
    let rest = decimal (size % 10 ^ places) in
    let zeros = places - length rest in
    let whole_is : is_field whole ≡ true = decimal_is (size / 10 ^ places) (omega arith) in
    let rest_is : is_field rest ≡ true = decimal_is (size % 10 ^ places) (omega arith) in
    joined (sign_text negative ++ whole ++ codes ".") (in_digits places (size % 10 ^ places))
    (joined (sign_text negative ++ whole) (codes ".")
    (joined (sign_text negative) whole (sign_is negative) whole_is) refl)
    (joined (replicate zeros 48) rest (zeros_are zeros) rest_is)

word_is : (draw : ℕ) → is_field (word_of draw) ≡ true
word_is draw = grind (arith, nat_tests)

-- a field has such bytes alone
pub field_is : (kind : Kind) (draw : ℕ) → is_field (field_text kind draw) ≡ true
field_is Int draw = whole_is (number_of draw) (number_is_small draw)
field_is (Fixed places) draw =
    fixed_is places (unsigned_abs (number_of draw)) (is_negative (number_of draw))
    (number_is_small draw)
field_is Text draw = word_is draw
field_is Number draw = refl
field_is Table draw = refl
