-- Statement. Why a line is left out, said by the parts of its texts.
use Rattle.std.specs.Prelude.{◌≡◌, ◌≢◌, ◌+◌, ◌⊎◌, ℕ, ℤ, List, ◌∷◌, length, Some, All, FitsSigned}
use Rattle.std.specs.Int.{w64}
use Rattle.std.specs.List.{Contains}
use Rattle.value_ops.specs.declared.field.Field.{Field}
use Rattle.item_schema.specs.declared.column.Column.{Column}
use Rattle.item_schema.specs.declared.column.Kind.{Kind}
use Rattle.item_schema.specs.declared.column.Kind.TheVariants.{Int, Fixed, Number, Table}
use Rattle.line_reader.specs.declared.stop.Cause.{Cause}
use Rattle.line_reader.specs.declared.stop.Cause.TheVariants as cause
use Rattle.line_reader.specs.declared.stop.Skip.{Skip}
use Rattle.line_reader.specs.Reading.{record_of}
use Rattle.line_reader.specs.Written.{Writes, WritesDecimal, WritesWhole}

-- the text is a decimal number, with any number of digits after its point
abbrev pub IsDecimal : List ℕ → Type 0
IsDecimal text = (digits : ℕ) × (number : ℤ) × WritesDecimal digits text number

-- the text writes no field of a column, for this cause: it has not the form of a number, too many
-- digits after its point, or a number that does not fit
abbrev pub FailsFor : Cause → Kind → List ℕ → Type 0
FailsFor cause.Number Int text = (number : ℤ) → ¬ WritesWhole text number
FailsFor cause.Number (Fixed places) text = ¬ IsDecimal text
FailsFor cause.Number Number text = Unit {0}
FailsFor cause.Number Table text = Unit {0}
FailsFor cause.Digits (Fixed places) text =
    IsDecimal text × ((number : ℤ) → ¬ WritesDecimal places text number)
FailsFor cause.Range Int text = (number : ℤ) × WritesWhole text number × ¬ FitsSigned w64 number
FailsFor cause.Range (Fixed places) text =
    (number : ℤ) × WritesDecimal places text number × ¬ FitsSigned w64 number
FailsFor _ _ _ = ⊥

-- the text writes some field of a column
abbrev pub WritesSome : Kind → List ℕ → Type 0
WritesSome kind text = (field : Field) × Writes kind text field

-- the column of this number, counted from that of the first text, is the first whose text fails
abbrev pub FailsFirst : ℕ → List Column → List (List ℕ) → Cause → ℕ → Type 0
FailsFirst at (column ∷ columns) (text ∷ texts) cause number =
    (FailsFor cause column.kind text × (number ≡ at))
    ⊎ (WritesSome column.kind text × FailsFirst (at + 1) columns texts cause number)
FailsFirst at _ _ cause number = ⊥

-- no CR is left in the line
abbrev pub HasNoReturn : List ℕ → Type 0
HasNoReturn line = All (λ byte. byte ≢ 13) line

-- the line has no CR, and no record of a text for each column
pub record HasOtherTexts (columns : List Column) (line : List ℕ) : Type 0 where
  pub no_return : HasNoReturn line
  pub other : (texts : List (List ℕ)) → record_of line ≡ Some texts → length texts ≢ length columns

-- the line has a text for each column, and a first one that fails
pub record HasFailure (columns : List Column) (line : List ℕ) (cause : Cause)
    (number : ℕ) : Type 0 where
  pub no_return : HasNoReturn line
  pub texts : List (List ℕ)
  pub row : record_of line ≡ Some texts
  pub each : length texts ≡ length columns
  pub first : FailsFirst 1 columns texts cause number

-- a line is left out for this cause in this column, 0 for the whole line
abbrev pub SkipsFor : List Column → List ℕ → Cause → ℕ → Type 0
SkipsFor columns line cause.Long number = ⊥
SkipsFor columns line cause.Cr number = (number ≡ 0) × Contains line 13
SkipsFor columns line cause.Columns number = (number ≡ 0) × HasOtherTexts columns line
SkipsFor columns line cause number = HasFailure columns line cause number

-- a line is left out
abbrev pub SkipsLine : List Column → List ℕ → Skip → Type 0
SkipsLine columns line skip = SkipsFor columns line skip.cause skip.column
