-- Statement. How much values count where they are kept.
use Rattle.std.specs.Prelude.{ℕ, ◌+◌, Option, None, Some, length}
use Rattle.value_ops.specs.declared.value.Value.{Value}
use Rattle.value_ops.specs.declared.value.Value.TheVariants.{Scalar, Rec, Table}

-- a scalar counts one, a record its parts, and a table one and one for each of its entries
abbrev pub size_of_value : Value → ℕ
size_of_value (Scalar scalar) = 1
size_of_value (Rec parts) = length parts
size_of_value (Table entries) = length entries + 1

-- an answer counts as its value, and where there is none nothing is kept
abbrev pub size_of_answer : Option Value → ℕ
size_of_answer None = 0
size_of_answer (Some found) = size_of_value found
