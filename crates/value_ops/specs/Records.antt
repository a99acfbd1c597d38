-- For the prover. How a record keeps its scalars: what each of them is, and beside it its number.
use Rattle.std.specs.Prelude.{◌≡◌, ◌-◌, ◌++◌, ℕ, ℤ, pos, List, [], ◌∷◌, length, map, replicate}
use Rattle.std.specs.Prelude.{Option, Some, None}
use Rattle.std.specs.List.{All}
use Rattle.few_parts.specs.Sizes.{IsRecordSize}
use Rattle.value_ops.specs.Types.{IsScalar}
use Rattle.value_ops.specs.declared.rec.Part.{Part}
use Rattle.value_ops.specs.declared.rec.Part.TheVariants as part
use Rattle.value_ops.specs.declared.scalar.Scalar.{Scalar}
use Rattle.value_ops.specs.declared.scalar.Scalar.TheVariants as scalar

-- the scalar that is so and has this number; there is none at a place where the record has no part
abbrev pub scalar_with : Part → ℤ → Option Scalar
scalar_with part.Number number = Some (scalar.Number number)
scalar_with part.Overflow number = Some scalar.Overflow
scalar_with part.DivZero number = Some scalar.DivZero
scalar_with part.Absent number = None

-- a scalar before others, or none where it is none
abbrev pub before : Option Scalar → List Scalar → List Scalar
before None scalars = []
before (Some scalar) scalars = scalar ∷ scalars

-- the scalars, up to the first place where there is none
abbrev pub scalars_of : List Part → List ℤ → List Scalar
scalars_of (part ∷ parts) (number ∷ numbers) =
    before (scalar_with part number) (scalars_of parts numbers)
scalars_of _ _ = []

-- what a scalar is
abbrev pub part_of : Scalar → Part
part_of (scalar.Number number) = part.Number
part_of scalar.Overflow = part.Overflow
part_of scalar.DivZero = part.DivZero

-- its number, and zero where it is none
abbrev pub number_of : Scalar → ℤ
number_of (scalar.Number number) = number
number_of _ = pos 0

-- what is said of each scalar, and what stands at each place after them
abbrev pub filled : {A : Type 0} → (Scalar → A) → A → ℕ → List Scalar → List A
filled said blank room scalars = map said scalars ++ replicate (room - length scalars) blank

-- what the scalars are, and their numbers
abbrev pub parts_of : List Scalar → List Part
parts_of scalars = filled part_of part.Absent 8 scalars

abbrev pub numbers_of : List Scalar → List ℤ
numbers_of scalars = filled number_of (pos 0) 8 scalars

-- two to eight scalars are kept, and nothing beside them
pub record IsKept (parts : List Part) (numbers : List ℤ) : Type 0 where
  pub same_parts : parts_of (scalars_of parts numbers) ≡ parts
  pub same_numbers : numbers_of (scalars_of parts numbers) ≡ numbers
  pub size : IsRecordSize (length (scalars_of parts numbers))
  pub scalars : All IsScalar (scalars_of parts numbers)
