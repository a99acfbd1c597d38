-- Statement. The values that there are, by their types.
use Rattle.std.specs.Prelude.{◌≡◌, ℕ, List, FitsSigned, length}
use Rattle.std.specs.Int.{w64}
use Rattle.std.specs.List.{All}
use Rattle.value_ops.specs.Entries.{HasDistinctKeys, keys_of, values_of}
use Rattle.few_parts.specs.Sizes.{IsRecordSize}
use Rattle.value_ops.specs.Texts.{IsText}
use Rattle.value_ops.specs.declared.scalar.Scalar.{Scalar}
use Rattle.value_ops.specs.declared.scalar.Scalar.TheVariants as scalar
use Rattle.value_ops.specs.declared.value.Value.{Value}
use Rattle.value_ops.specs.declared.value.Value.TheVariants as value
use Rattle.value_ops.specs.declared.value.ValueType.{ValueType}
use Rattle.value_ops.specs.declared.value.ValueType.TheVariants.{Number, Rec, Table}

-- a number of 64 bits, or why there is none
abbrev pub IsScalar : Scalar → Type 0
IsScalar (scalar.Number number) = FitsSigned w64 number
IsScalar scalar.Overflow = Unit {0}
IsScalar scalar.DivZero = Unit {0}

-- this many scalars, two to eight
pub record IsRecord (size : ℕ) (parts : List Scalar) : Type 0 where
  pub count : length parts ≡ size
  pub few : IsRecordSize size
  pub scalars : All IsScalar parts

-- scalars under texts that are all different
pub record IsTable (entries : List (List ℕ × Scalar)) : Type 0 where
  pub keys : All IsText (keys_of entries)
  pub distinct : HasDistinctKeys entries
  pub scalars : All IsScalar (values_of entries)

-- the value is one of this type
abbrev pub IsValueOf : ValueType → Value → Type 0
IsValueOf Number (value.Scalar scalar) = IsScalar scalar
IsValueOf (Rec size) (value.Rec parts) = IsRecord size parts
IsValueOf Table (value.Table entries) = IsTable entries
IsValueOf _ _ = ⊥

-- the type of a value
abbrev pub type_of : Value → ValueType
type_of (value.Scalar scalar) = Number
type_of (value.Rec parts) = Rec (length parts)
type_of (value.Table entries) = Table

-- a type that values have
abbrev pub IsType : ValueType → Type 0
IsType Number = Unit {0}
IsType (Rec size) = IsRecordSize size
IsType Table = Unit {0}
