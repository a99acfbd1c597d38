-- For the prover. Rows of answers, and what expressions give on the values in them.
use Rattle.std.specs.Prelude.{◌≡◌, ◌<◌, ℕ, ◌+◌, List, [], Option, Some, None, length}
use Rattle.std.specs.Prelude.{slice_index_or}
use Rattle.value_ops.specs.declared.value.Value.{Value}
use Rattle.value_ops.specs.declared.value.ValueType.{ValueType}
use Rattle.expressions.specs.Evaluation.{given}
use Rattle.expressions.specs.Expressions.{Expression}
use Rattle.expressions.specs.Typing.{HasType, types_of}
use Rattle.query_model.specs.Denotation.{on_one, on_both}

-- the answer at a place of a row
abbrev pub answer_at : List (Option Value) → ℕ → Option Value
answer_at row place = slice_index_or row place None

-- the expression is well typed on this value
abbrev pub IsTypedOnOne : Expression → Value → Type 0
IsTypedOnOne expression left =
    (type : ValueType) × HasType (types_of (given [] (Some left) None)) expression type

-- the expression is well typed on these two values
abbrev pub IsTypedOnBoth : Expression → Value → Value → Type 0
IsTypedOnBoth expression left right =
    (type : ValueType) × HasType (types_of (given [] (Some left) (Some right))) expression type

-- what the expression gives on the value, if there is one
abbrev pub IsOnOne : Expression → Option Value → Option Value → Type 0
IsOnOne expression None answer = answer ≡ None
IsOnOne expression (Some left) answer =
    (value : Value) × (answer ≡ Some value) × (on_one expression left ≡ Some value)

-- what the expression gives on two values
abbrev pub IsGiven : Expression → Value → Value → Option Value → Type 0
IsGiven expression left right answer =
    (value : Value) × (answer ≡ Some value) × (on_both expression left right ≡ Some value)

-- what the expression gives on two values, if there are both
abbrev pub IsOnBoth : Expression → Option Value → Option Value → Option Value → Type 0
IsOnBoth expression None right answer = answer ≡ None
IsOnBoth expression (Some left) None answer = answer ≡ None
IsOnBoth expression (Some left) (Some right) answer = IsGiven expression left right answer

-- what the expression gives on the left value and the right one; without a right one, what was
-- there before
abbrev pub IsPut : Expression → Value → Option Value → Option Value → Option Value → Type 0
IsPut expression left None old new = new ≡ old
IsPut expression left (Some right) old new = IsGiven expression left right new

-- from the place `from` on, the row has what the left value and the values of the right row give
pub record IsJoined (expression : Expression) (left : Value)
    (right : List (Option Value)) (from : ℕ)
    (old new : List (Option Value)) : Type 0 where
  pub count : length new ≡ length old
  pub before : (place : ℕ) → place < from → answer_at new place ≡ answer_at old place
  pub after : (place : ℕ) → place < length right
      → IsPut expression left (answer_at right place) (answer_at old (from + place))
      (answer_at new (from + place))
