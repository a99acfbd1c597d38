-- Statement. The line of an item, as a person would type it.
use Rattle.std.specs.Prelude.{ℕ, ◌/◌, ◌%◌, ◌^◌, ◌-◌, ◌==◌, ◌&&◌, ◌||◌, not, nat_lt, if◌then◌else◌}
use Rattle.std.specs.Prelude.{Bool, false, ℤ, List, [], ◌∷◌, ◌++◌, length, codes, replicate}
use Rattle.std.specs.Prelude.{unsigned_abs, Option, None, Some}
use Rattle.std.specs.Char.{is_control}
use Rattle.std.specs.Fmt.{decimal, sign_text, signed_decimal}
use Rattle.std.specs.Int.{is_negative}
use Rattle.std.specs.List.{flat_map, list_any}
use Rattle.std.specs.Str.{chars, is_utf8}
use Rattle.value_ops.specs.declared.field.Field.{Field}
use Rattle.value_ops.specs.declared.field.Field.TheVariants as field
use Rattle.item_schema.specs.declared.column.Column.{Column}
use Rattle.item_schema.specs.declared.column.Kind.{Kind}
use Rattle.item_schema.specs.declared.column.Kind.TheVariants.{Fixed}
use Rattle.report_writer.specs.Texts.{value_text}

-- the number, with zeros in front if it has fewer than `least` digits
abbrev pub in_digits : ℕ → ℕ → List ℕ
in_digits least number = replicate (least - length (decimal number)) 48 ++ decimal number

-- a number of smallest units, with `places` digits after the point
abbrev pub fixed_text : ℕ → ℤ → List ℕ
fixed_text places number =
    sign_text (is_negative number) ++ decimal (unsigned_abs number / 10 ^ places) ++ codes "."
    ++ in_digits places (unsigned_abs number % 10 ^ places)

-- the number of a column of this kind
abbrev pub number_text : Kind → ℤ → List ℕ
number_text (Fixed places) number = fixed_text places number
number_text kind number = signed_decimal number

-- a comma or a quote
abbrev pub is_delimiter : ℕ → Bool
is_delimiter byte = byte == 44 || byte == 34

-- a text that is read correctly without quotes: it is not empty, has no delimiters, and does not
-- begin as a byte order mark does
abbrev pub is_bare : List ℕ → Bool
is_bare [] = false
is_bare (byte ∷ bytes) = not (byte == 239) && not (list_any is_delimiter (byte ∷ bytes))

-- a byte of a text in quotes
abbrev pub byte_text : ℕ → List ℕ
byte_text byte = if byte == 34 then codes "\"\"" else byte ∷ []

-- a text, in quotes if it would not be read without them
abbrev pub typed_text : List ℕ → List ℕ
typed_text text = if is_bare text then text else codes "\"" ++ flat_map byte_text text ++ codes "\""

-- the field of a column of this kind
abbrev pub field_text : Kind → Field → List ℕ
field_text kind (field.Int number) = number_text kind number
field_text kind (field.Text text) = typed_text text
field_text kind (field.Val value) = value_text value

-- the fields of an item of these columns, with commas between them
abbrev pub line_of : List Column → List Field → List ℕ
line_of (column ∷ []) (field ∷ []) = field_text column.kind field
line_of (column ∷ columns) (field ∷ fields) =
    field_text column.kind field ++ codes "," ++ line_of columns fields
line_of _ _ = []

-- UTF-8 without control characters, and so without a line end
abbrev pub is_plain : List ℕ → Bool
is_plain line = is_utf8 line && not (list_any is_control (chars line))

-- a line that is shown as it is, and is not long
abbrev pub is_shown : List ℕ → Bool
is_shown line = not (nat_lt 96 (length line)) && is_plain line

-- the line of an item, if it is shown
abbrev pub shown_line : List Column → List Field → Option (List ℕ)
shown_line columns item =
    if is_shown (line_of columns item) then Some (line_of columns item) else None
