-- The texts of replies have no byte below a space but the LF at their end.
use Rattle.std.proofs.Common.{◌≡◌, ℕ, zero, suc, ◌/◌, ◌%◌, ◌==◌, ◌&&◌, ◌||◌, not}
use Rattle.std.proofs.Common.{pos, negsuc, Bool, true, false, cond, nat_le, List, []}
use Rattle.std.proofs.Common.{◌∷◌, ◌++◌, codes, Option, Some, None, Result, Ok, Err, refl, ◌∙◌}
use Rattle.std.proofs.Common.{arith}
use Rattle.std.specs.Fmt.{decimal, digit_glyph, digits, digits_onto}
use Rattle.std.specs.List.{flat_map, list_all}
use Rattle.std.proofs.lemmas.Bool.{and_from}
use Rattle.std.proofs.lemmas.Bool.Decides.{nat_tests}
use Rattle.std.proofs.lemmas.List.Folds.{list_all-append}
use Rattle.value_ops.specs.declared.field.Field.{Field}
use Rattle.value_ops.specs.declared.scalar.Scalar.{Scalar}
use Rattle.value_ops.specs.declared.scalar.Scalar.TheVariants.{Number, Overflow, DivZero}
use Rattle.value_ops.specs.declared.value.Value.{Value}
use Rattle.value_ops.specs.declared.value.Value.TheVariants as value
use Rattle.line_reader.specs.declared.stop.Cause.{Cause}
use Rattle.line_reader.specs.declared.stop.Cause.TheVariants as cause
use Rattle.line_reader.specs.declared.stop.Skip.{Skip}
use Rattle.report_writer.specs.Texts.{answer_text, byte_text, cause_name, entries_text, entry_text}
use Rattle.report_writer.specs.Texts.{hex_digit, key_text, scalar_text, skip_text, value_text}
use Rattle.stream_run.specs.Output.{reply_to}

-- a space or a greater byte
abbrev pub is_high : ℕ → Bool
is_high byte = nat_le 32 byte

-- bytes of these
abbrev pub AreHigh : List ℕ → Type 0
AreHigh bytes = list_all is_high bytes ≡ true

-- such bytes one after the other
joined : (front rest : List ℕ) → AreHigh front → AreHigh rest → AreHigh (front ++ rest)
joined front rest are others =
    list_all-append is_high front rest
    ∙ and_from (list_all is_high front) (list_all is_high rest) are others

glyph_high : (digit : ℕ) → is_high (digit_glyph false digit) ≡ true
glyph_high digit = grind (arith, nat_tests)

-- digits before others
digits_high : (steps number : ℕ) (others : List ℕ) → AreHigh others
    → AreHigh (digits_onto steps 10 false number others)
digits_high zero number others are = are
digits_high (suc steps) number others are =
    at (number / 10 == 0) (digits_high steps (number / 10) more more_high)
  where
    more : List ℕ
    more = digit_glyph false (number % 10) ∷ others

    more_high : AreHigh more
    more_high = and_from (is_high (digit_glyph false (number % 10))) (list_all is_high others)
        (glyph_high (number % 10)) are

    at : (last : Bool) → AreHigh (digits_onto steps 10 false (number / 10) more)
        → AreHigh (cond last more (digits_onto steps 10 false (number / 10) more))
    at true others_high = more_high
    at false others_high = others_high

decimal_high : (number : ℕ) → AreHigh (decimal number)
unfolding digits
decimal_high number = digits_high 64 number [] refl

scalar_high : (scalar : Scalar) → AreHigh (scalar_text scalar)
scalar_high (Number (pos number)) = decimal_high number
scalar_high (Number (negsuc number)) = decimal_high (suc number)
scalar_high Overflow = refl
scalar_high DivZero = refl

hex_high : (digit : ℕ) → is_high (hex_digit digit) ≡ true
hex_high digit = grind (arith, nat_tests)

-- the bytes of a key
byte_high : (byte : ℕ) → AreHigh (byte_text byte)
byte_high byte = at (nat_le 32 byte) refl (nat_le byte 126) (not (byte == 34 || byte == 92))
  where
    hex : AreHigh (codes "\\x" ++ hex_digit (byte / 16) ∷ hex_digit (byte % 16) ∷ [])
    hex = and_from (is_high (hex_digit (byte / 16))) (list_all is_high (hex_digit (byte % 16) ∷ []))
        (hex_high (byte / 16)) (and_from (is_high (hex_digit (byte % 16))) true
        (hex_high (byte % 16)) refl)

    at : (above : Bool) → nat_le 32 byte ≡ above → (below other : Bool)
        → AreHigh (cond (above && below && other) (byte ∷ [])
        (codes "\\x" ++ hex_digit (byte / 16) ∷ hex_digit (byte % 16) ∷ []))
    at true is true true = and_from (is_high byte) true is refl
    at true is true false = hex
    at true is false other = hex
    at false is below other = hex

bytes_high : (bytes : List ℕ) → AreHigh (flat_map byte_text bytes)
bytes_high [] = refl
bytes_high (byte ∷ bytes) =
    joined (byte_text byte) (flat_map byte_text bytes) (byte_high byte) (bytes_high bytes)

entry_high : (entry : List ℕ × Scalar) → AreHigh (entry_text entry)
entry_high entry =
    joined (key_text entry.0 ++ codes ":") (scalar_text entry.1)
    (joined (key_text entry.0) (codes ":")
    (joined (flat_map byte_text entry.0) (34 ∷ []) (bytes_high entry.0) refl) refl)
    (scalar_high entry.1)

entries_high : (entries : List (List ℕ × Scalar)) → AreHigh (entries_text entries)
entries_high [] = refl
entries_high (entry ∷ []) = entry_high entry
entries_high (entry ∷ other ∷ entries) =
    joined (entry_text entry ++ codes ",") (entries_text (other ∷ entries))
    (joined (entry_text entry) (codes ",") (entry_high entry) refl)
    (entries_high (other ∷ entries))

parts_high : (parts : List Scalar)
    → AreHigh (flat_map (λ part. codes "," ++ scalar_text part) parts)
parts_high [] = refl
parts_high (part ∷ parts) =
    joined (codes "," ++ scalar_text part) (flat_map (λ part. codes "," ++ scalar_text part) parts)
    (scalar_high part) (parts_high parts)

value_high : (given : Value) → AreHigh (value_text given)
value_high (value.Scalar scalar) = scalar_high scalar
value_high (value.Rec []) = refl
value_high (value.Rec (part ∷ parts)) =
    let others = flat_map (λ part. codes "," ++ scalar_text part) parts in
    joined (scalar_text part ++ others) (codes ")")
    (joined (scalar_text part) others (scalar_high part) (parts_high parts)) refl
value_high (value.Table entries) =
    joined (entries_text entries) (codes "}") (entries_high entries) refl

cause_high : (name : Cause) → AreHigh (cause_name name)
cause_high cause.Long = refl
cause_high cause.Cr = refl
cause_high cause.Columns = refl
cause_high cause.Number = refl
cause_high cause.Range = refl
cause_high cause.Digits = refl

-- a text is such bytes and an LF
abbrev pub IsRow : List ℕ → Type 0
IsRow text = (front : List ℕ) × (text ≡ front ++ 10 ∷ []) × AreHigh front

pub answer_row : (answer : Option Value) → IsRow (answer_text answer)
answer_row (Some given) = (value_text given, refl, value_high given)
answer_row None = (codes "undefined", refl, refl)

pub skip_row : (skip : Skip) → IsRow (skip_text skip)
skip_row skip =
    let name = codes "skipped " ++ cause_name skip.cause in
    let column = decimal skip.column in (
      name ++ codes " " ++ column,
      refl,
      joined (name ++ codes " ") column
          (joined name (codes " ") (joined (codes "skipped ") (cause_name skip.cause) refl
          (cause_high skip.cause)) refl)
          (decimal_high skip.column),
    )

-- what is written of a line that gives something is a row
pub reply_row : (found : Result (List Field) Skip) (value : Option Value)
    → IsRow (reply_to (Some found) value)
reply_row (Ok item) value = answer_row value
reply_row (Err why) value = skip_row why
