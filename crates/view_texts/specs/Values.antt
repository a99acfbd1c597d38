-- Statement. The texts of values and fields, with decimals: as a run writes them, and as JSON.
use Rattle.std.specs.Prelude.{ℕ, List, [], ◌∷◌, ◌++◌, codes, Option, Some, None}
use Rattle.std.specs.List.{join_by}
use Rattle.value_ops.specs.declared.field.Field.{Field}
use Rattle.value_ops.specs.declared.field.Field.TheVariants as field
use Rattle.value_ops.specs.declared.scalar.Scalar.{Scalar}
use Rattle.value_ops.specs.declared.scalar.Scalar.TheVariants.{Number, Overflow, DivZero}
use Rattle.value_ops.specs.declared.value.Value.{Value}
use Rattle.value_ops.specs.declared.value.Value.TheVariants as value
use Rattle.item_schema.specs.declared.column.Kind.{Kind}
use Rattle.item_schema.specs.declared.column.Kind.TheVariants.{Fixed}
use Rattle.report_writer.specs.Texts as run
use Rattle.view_texts.specs.Decimals.{decimal_text}
use Rattle.view_texts.specs.Spelled.{json_string}
use Rattle.view_texts.specs.declared.notation.Notation.{Notation}
use Rattle.view_texts.specs.declared.notation.Notation.TheVariants.{Plain, Json}

-- a word of letters, which is a string in JSON
abbrev pub word_text : Notation → List ℕ → List ℕ
word_text Plain word = word
word_text Json word = codes "\"" ++ word ++ codes "\""

-- a number, or why there is none
abbrev pub scalar_text : Notation → ℕ → Scalar → List ℕ
scalar_text notation digits (Number number) = decimal_text digits number
scalar_text notation digits Overflow = word_text notation (codes "overflow")
scalar_text notation digits DivZero = word_text notation (codes "divzero")

-- where a record begins, and where it ends
abbrev pub record_start : Notation → ℕ
record_start Plain = 40
record_start Json = 91

abbrev pub record_end : Notation → ℕ
record_end Plain = 41
record_end Json = 93

-- a record, which is an array in JSON
abbrev pub record_text : Notation → ℕ → List Scalar → List ℕ
record_text notation digits parts =
    record_start notation ∷ join_by (scalar_text notation digits) (codes ",") parts
    ++ record_end notation ∷ []

-- a key
abbrev pub key_text : Notation → List ℕ → List ℕ
key_text Plain key = run.key_text key
key_text Json key = json_string key

-- an entry: its key, a colon and its scalar
abbrev pub entry_text : Notation → ℕ → List ℕ × Scalar → List ℕ
entry_text notation digits entry =
    key_text notation entry.0 ++ codes ":" ++ scalar_text notation digits entry.1

-- a table, which is an object in JSON
abbrev pub table_text : Notation → ℕ → List (List ℕ × Scalar) → List ℕ
table_text notation digits entries =
    codes "{" ++ join_by (entry_text notation digits) (codes ",") entries ++ codes "}"

-- a scalar, a record or a table
abbrev pub value_text : Notation → ℕ → Value → List ℕ
value_text notation digits (value.Scalar scalar) = scalar_text notation digits scalar
value_text notation digits (value.Rec parts) = record_text notation digits parts
value_text notation digits (value.Table entries) = table_text notation digits entries

-- that there is no value
abbrev pub none_text : Notation → List ℕ
none_text Plain = codes "undefined"
none_text Json = codes "null"

-- a value, or that there is none
abbrev pub answer_text : Notation → ℕ → Option Value → List ℕ
answer_text notation digits (Some found) = value_text notation digits found
answer_text notation digits None = none_text notation

-- how many digits after the point the numbers of a column have
abbrev pub digits_of : Kind → ℕ
digits_of (Fixed digits) = digits
digits_of _ = 0

-- bytes, which are a string in JSON
abbrev pub bytes_text : Notation → List ℕ → List ℕ
bytes_text Plain bytes = bytes
bytes_text Json bytes = json_string bytes

-- a field of a column
abbrev pub field_text : Notation → Kind → Field → List ℕ
field_text notation kind (field.Int number) = decimal_text (digits_of kind) number
field_text notation kind (field.Text bytes) = bytes_text notation bytes
field_text notation kind (field.Val found) = value_text notation (digits_of kind) found
