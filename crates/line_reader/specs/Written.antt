-- Statement. The items that lines write, said by the parts of their texts.
use Rattle.std.specs.Prelude.{◌≡◌, ◌≢◌, ◌≤◌, ◌*◌, ◌^◌, ◌-◌, ◌⊎◌, ℕ, ℤ, pos, neg_ℤ, List, [], ◌∷◌}
use Rattle.std.specs.Prelude.{◌++◌, length, Some, All, FitsSigned}
use Rattle.std.specs.Int.{w64}
use Rattle.std.specs.Str.Parse.{IsNumeral, digits_value}
use Rattle.value_ops.specs.declared.field.Field.{Field}
use Rattle.value_ops.specs.declared.field.Field.TheVariants as field
use Rattle.item_schema.specs.declared.column.Column.{Column}
use Rattle.item_schema.specs.declared.column.Kind.{Kind}
use Rattle.item_schema.specs.declared.column.Kind.TheVariants.{Int, Fixed, Text}
use Rattle.line_reader.specs.Reading.{record_of}

-- what may stand before the digits of a number
pub data Sign : Type 0 where
  Absent : Sign
  Plus : Sign
  Minus : Sign

-- the bytes of a sign
abbrev pub sign_bytes : Sign → List ℕ
sign_bytes Absent = []
sign_bytes Plus = 43 ∷ []
sign_bytes Minus = 45 ∷ []

-- the number of this size after a sign
abbrev pub with_sign : Sign → ℕ → ℤ
with_sign Absent size = pos size
with_sign Plus size = pos size
with_sign Minus size = neg_ℤ (pos size)

-- a sign or none, and digits
pub record WritesWhole (text : List ℕ) (number : ℤ) : Type 0 where
  pub sign : Sign
  pub digits : List ℕ
  pub spelled : text ≡ sign_bytes sign ++ digits
  pub numeral : IsNumeral 10 digits
  pub value : number ≡ with_sign sign (digits_value 10 digits)

-- these digits after a point, or neither digits nor a point
abbrev pub IsFraction : List ℕ → List ℕ → Type 0
IsFraction bytes digits =
    ((bytes ≡ []) × (digits ≡ [])) ⊎ ((bytes ≡ 46 ∷ digits) × IsNumeral 10 digits)

-- a decimal number with at most this many digits after its point, counted in the smallest unit
pub record WritesDecimal (places : ℕ) (text : List ℕ) (number : ℤ) : Type 0 where
  pub sign : Sign
  pub whole : List ℕ
  pub after : List ℕ
  pub fraction : List ℕ
  pub spelled : text ≡ sign_bytes sign ++ (whole ++ after)
  pub numeral : IsNumeral 10 whole
  pub point : IsFraction after fraction
  pub few : length fraction ≤ places
  pub value : number
      ≡ with_sign sign (digits_value 10 (whole ++ fraction) * 10 ^ (places - length fraction))

-- a text writes this field of a column
abbrev pub Writes : Kind → List ℕ → Field → Type 0
Writes Int text (field.Int number) = WritesWhole text number × FitsSigned w64 number
Writes (Fixed places) text (field.Int number) =
    WritesDecimal places text number × FitsSigned w64 number
Writes Text text (field.Text bytes) = text ≡ bytes
Writes _ _ _ = ⊥

-- texts write these fields of the columns
abbrev pub WriteAll : List Column → List (List ℕ) → List Field → Type 0
WriteAll [] [] [] = Unit {0}
WriteAll (column ∷ columns) (text ∷ texts) (field ∷ fields) =
    Writes column.kind text field × WriteAll columns texts fields
WriteAll _ _ _ = ⊥

-- the line has no CR, and the texts of its record write the fields of the columns
pub record WritesItem (columns : List Column) (line : List ℕ) (fields : List Field) : Type 0 where
  pub texts : List (List ℕ)
  pub no_return : All (λ byte. byte ≢ 13) line
  pub row : record_of line ≡ Some texts
  pub written : WriteAll columns texts fields
