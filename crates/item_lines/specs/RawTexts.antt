-- For the prover. The texts of the fields of a line, as they are read from it.
use Rattle.std.specs.Prelude.{ℕ, List, [], ◌∷◌}
use Rattle.value_ops.specs.declared.field.Field.{Field}
use Rattle.value_ops.specs.declared.field.Field.TheVariants as field
use Rattle.item_schema.specs.declared.column.Column.{Column}
use Rattle.item_schema.specs.declared.column.Kind.{Kind}
use Rattle.item_lines.specs.Lines.{number_text}

-- the text of a field, without quotes
abbrev pub raw_text : Kind → Field → List ℕ
raw_text kind (field.Int number) = number_text kind number
raw_text kind (field.Text text) = text
raw_text kind (field.Val value) = []

-- the texts of an item
abbrev pub raw_texts : List Column → List Field → List (List ℕ)
raw_texts (column ∷ columns) (one ∷ fields) = raw_text column.kind one ∷ raw_texts columns fields
raw_texts _ _ = []
