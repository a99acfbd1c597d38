-- Statement. The field of a column that belongs to a draw.
use Rattle.std.specs.Prelude.{ℕ, ◌+◌, ◌-◌, ◌/◌, ◌%◌, ◌^◌, ℤ, pos, ◌-ℤ◌, List, [], ◌∷◌, ◌++◌, length}
use Rattle.std.specs.Prelude.{codes, replicate, unsigned_abs}
use Rattle.std.specs.Fmt.{decimal, sign_text, signed_decimal}
use Rattle.std.specs.Int.{is_negative}
use Rattle.value_ops.specs.declared.field.Field.{Field}
use Rattle.value_ops.specs.declared.field.Field.TheVariants as field
use Rattle.item_schema.specs.declared.column.Kind.{Kind}
use Rattle.item_schema.specs.declared.column.Kind.TheVariants.{Int, Fixed, Text, Number, Table}

-- the number that belongs to the draw, from -1000 to 1000
abbrev pub number_of : ℕ → ℤ
number_of draw = pos (draw % 2001) -ℤ pos 1000

-- the text that belongs to the draw: `k` and a digit from 0 to 7
abbrev pub word_of : ℕ → List ℕ
word_of draw = codes "k" ++ (48 + draw % 8) ∷ []

-- the number, with zeros in front if it has fewer than `least` digits
abbrev pub in_digits : ℕ → ℕ → List ℕ
in_digits least number = replicate (least - length (decimal number)) 48 ++ decimal number

-- a number of smallest units, with `places` digits after the point
abbrev pub fixed_text : ℕ → ℤ → List ℕ
fixed_text places number =
    sign_text (is_negative number) ++ decimal (unsigned_abs number / 10 ^ places) ++ codes "."
    ++ in_digits places (unsigned_abs number % 10 ^ places)

-- the text of the field. Columns of values have no texts.
abbrev pub field_text : Kind → ℕ → List ℕ
field_text Int draw = signed_decimal (number_of draw)
field_text (Fixed places) draw = fixed_text places (number_of draw)
field_text Text draw = word_of draw
field_text Number draw = []
field_text Table draw = []

-- the field that this text is read to
abbrev pub field_of : Kind → ℕ → Field
field_of Text draw = field.Text (word_of draw)
field_of kind draw = field.Int (number_of draw)
