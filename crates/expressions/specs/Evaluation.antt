-- Statement. What expressions give, on the fields of an item or on a left and a right value.
use Rattle.std.specs.Prelude.{ℕ, pos, ◌-◌, if◌then◌else◌, List, [], ◌∷◌, fold, length, Option, None}
use Rattle.std.specs.Prelude.{Some, slice_get}
use Rattle.std.specs.Option.{option_map, option_and_then}
use Rattle.expressions.specs.declared.expr.Var.{Var}
use Rattle.expressions.specs.declared.expr.Var.TheVariants as var
use Rattle.value_ops.specs.declared.field.Field.{Field}
use Rattle.language_base.specs.declared.binary.BinaryOp.TheVariants.{Add, Min, Max}
use Rattle.language_base.specs.declared.compare.Compare.{Compare}
use Rattle.value_ops.specs.declared.scalar.Scalar.{Scalar}
use Rattle.value_ops.specs.declared.scalar.Scalar.TheVariants.{Number}
use Rattle.value_ops.specs.declared.value.Value.{Value}
use Rattle.value_ops.specs.declared.value.Value.TheVariants as value
use Rattle.value_ops.specs.Entries.{values_of, value_at}
use Rattle.value_ops.specs.Fields.{value_of_field}
use Rattle.expressions.specs.Expressions.{Expression, literal, read, unary, binary, choice, sum}
use Rattle.expressions.specs.Expressions.{count, most, least, entry, rec, part, Expressions, none}
use Rattle.expressions.specs.Expressions.{more}
use Rattle.language_base.specs.Comparisons.{compares}
use Rattle.value_ops.specs.Operators.{binary_of, unary_of}
use Rattle.value_ops.specs.Scalar.{in_range}

-- what names stand for
pub record Inputs : Type 0 where
  pub fields : List Field
  pub left : Option Value
  pub right : Option Value

-- the same, as an expression is given them
abbrev pub given : List Field → Option Value → Option Value → Inputs
given fields left right = record { fields = fields; left = left; right = right }

-- what a name stands for
abbrev pub value_named : Inputs → Var → Option Value
value_named inputs (var.Field column) = value_of_field (slice_get inputs.fields column)
value_named inputs var.Left = inputs.left
value_named inputs var.Right = inputs.right

-- the scalar that a value is
abbrev pub scalar_in : Option Value → Option Scalar
scalar_in (Some (value.Scalar scalar)) = Some scalar
scalar_in _ = None

-- the entries of the table that a value is
abbrev pub table_in : Option Value → Option (List (List ℕ × Scalar))
table_in (Some (value.Table entries)) = Some entries
table_in _ = None

-- the parts of the record that a value is
abbrev pub record_in : Option Value → Option (List Scalar)
record_in (Some (value.Rec parts)) = Some parts
record_in _ = None

-- the part at a place of a record, counted from 1
abbrev pub part_at : ℕ → List Scalar → Option Scalar
part_at place parts = slice_get parts (place - 1)

-- of two things that are there
abbrev pub of_both : {A B C : Type 0} → (A → B → C) → Option A → Option B → Option C
of_both f (Some first) (Some second) = Some (f first second)
of_both f _ _ = None

-- What a choice gives: the leftmost operand of the comparison that is no number, or else what the
-- comparison chooses. The other branch is not looked at.
abbrev pub chosen : Compare → Scalar → Scalar → Option Scalar → Option Scalar → Option Scalar
chosen test (Number first) (Number second) met other =
    if compares test first second then met else other
chosen test (Number first) failed met other = Some failed
chosen test failed second met other = Some failed

-- the same where both operands are there
abbrev pub chosen_of : Compare → Option Scalar → Option Scalar → Option Scalar
    → Option Scalar → Option Scalar
chosen_of test (Some first) (Some second) met other = chosen test first second met other
chosen_of test _ _ met other = None

-- the scalars of a table, added in their order
abbrev pub sum_of : List (List ℕ × Scalar) → Scalar
sum_of entries = fold (binary_of Add) (Number (pos 0)) (values_of entries)

-- the greatest of a first scalar and those of a table, and the least
abbrev pub most_of : Scalar → List (List ℕ × Scalar) → Scalar
most_of first entries = fold (binary_of Max) first (values_of entries)

abbrev pub least_of : Scalar → List (List ℕ × Scalar) → Scalar
least_of first entries = fold (binary_of Min) first (values_of entries)

-- what is there, or else another
abbrev pub or_else : {A : Type 0} → Option A → Option A → Option A
or_else (Some found) other = Some found
or_else None other = other

-- the scalar under a key, or else another
abbrev pub scalar_at : List ℕ → Option Scalar → Option (List (List ℕ × Scalar)) → Option Scalar
scalar_at key other None = None
scalar_at key other (Some entries) = or_else (value_at key entries) other

-- the scalar that an expression gives
abbrev pub scalar_of : Inputs → Expression → Option Scalar
scalar_of inputs (literal number) = Some (Number number)
scalar_of inputs (read name) = scalar_in (value_named inputs name)
scalar_of inputs (unary op inner) = option_map (unary_of op) (scalar_of inputs inner)
scalar_of inputs (binary op first second) =
    of_both (binary_of op) (scalar_of inputs first) (scalar_of inputs second)
scalar_of inputs (choice test first second met other) =
    chosen_of test (scalar_of inputs first) (scalar_of inputs second)
    (scalar_of inputs met) (scalar_of inputs other)
scalar_of inputs (sum name) = option_map sum_of (table_in (value_named inputs name))
scalar_of inputs (count name) =
    option_map (λ entries. in_range (pos (length entries))) (table_in (value_named inputs name))
scalar_of inputs (most name first) =
    of_both most_of (scalar_of inputs first) (table_in (value_named inputs name))
scalar_of inputs (least name first) =
    of_both least_of (scalar_of inputs first) (table_in (value_named inputs name))
scalar_of inputs (entry name key other) =
    scalar_at key (scalar_of inputs other) (table_in (value_named inputs name))
scalar_of inputs (rec parts) = None
scalar_of inputs (part name place) =
    option_and_then (part_at place) (record_in (value_named inputs name))

-- the scalars that expressions give, each by itself and whatever it is
abbrev pub scalars_of : Inputs → Expressions → Option (List Scalar)
scalars_of inputs none = Some []
scalars_of inputs (more first rest) =
    of_both (λ scalar scalars. scalar ∷ scalars) (scalar_of inputs first) (scalars_of inputs rest)

-- the value that an expression gives: a bare name may give a record or a table
abbrev pub value_of : Inputs → Expression → Option Value
value_of inputs (read name) = value_named inputs name
value_of inputs (rec parts) = option_map value.Rec (scalars_of inputs parts)
value_of inputs expression = option_map value.Scalar (scalar_of inputs expression)
