-- Statement. The text of a word and of two readings of it: a line for each item, and a line for the
-- cuts of each reading.
use Rattle.std.specs.Prelude.{ℕ, List, ◌++◌, codes, decimal}
use Rattle.std.specs.Fmt.{signed_decimal}
use Rattle.std.specs.List.{flat_map, join_by}
use Rattle.value_ops.specs.declared.field.Field.{Field}
use Rattle.value_ops.specs.declared.field.Field.TheVariants.{Int, Text, Val}
use Rattle.report_writer.specs.Texts.{key_text, value_text}

-- a field: a number in its smallest unit, a text as a key, and a value as in an answer
abbrev pub field_text : Field → List ℕ
field_text (Int number) = signed_decimal number
field_text (Text bytes) = key_text bytes
field_text (Val value) = value_text value

-- an item: its fields, with a comma between each two
abbrev pub item_line : List Field → List ℕ
item_line fields = codes "item " ++ join_by field_text (codes ",") fields ++ codes "\n"

-- the cuts of a reading under its name, with a space between each two
abbrev pub cuts_line : List ℕ → List ℕ → List ℕ
cuts_line name cuts = name ++ codes " " ++ join_by decimal (codes " ") cuts ++ codes "\n"

-- the items, and the cuts of both readings
abbrev pub example_text : List (List Field) → List ℕ → List ℕ → List ℕ
example_text items first second =
    flat_map item_line items ++ cuts_line (codes "first") first ++ cuts_line (codes "second") second
