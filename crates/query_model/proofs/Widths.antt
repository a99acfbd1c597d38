-- Values have the widths of their queries.
use Rattle.std.proofs.Common.{◌≡◌, ◌∙◌, ℕ, zero, suc, List, [], ◌∷◌, length, Option, slice_get}
use Rattle.std.proofs.Common.{refl, ap}
use Rattle.std.specs.Option.{option_and_then}
use Rattle.expressions.specs.declared.expr.Var.TheVariants as var
use Rattle.value_ops.specs.declared.value.Value.{Value}
use Rattle.value_ops.specs.declared.value.Value.TheVariants as value
use Rattle.value_ops.specs.declared.value.ValueType.{ValueType}
use Rattle.value_ops.specs.declared.value.ValueType.TheVariants as type
use Rattle.expressions.specs.Expressions.{Expression, literal, read, unary, binary, choice, sum}
use Rattle.expressions.specs.Expressions.{count, most, least, entry, rec, part}
use Rattle.value_ops.specs.Types.{IsValueOf}
use Rattle.expressions.specs.Typing.{Types, type_named}
use Rattle.item_schema.specs.declared.column.Column.{Column}
use Rattle.item_schema.specs.declared.column.Kind.{Kind}
use Rattle.item_schema.specs.declared.column.Kind.TheVariants as kind
use Rattle.rate_expr.specs.Words.{Word, IsWordOf}
use Rattle.query_model.specs.Bounds.{width_of, width_with}
use Rattle.query_model.specs.Denotation.{Den}
use Rattle.query_model.specs.Queries as query
use Rattle.query_model.specs.Queries.{Qre, atom, eps, split, iter, combine, apply, compose, collect}
use Rattle.query_model.specs.QueryTypes.{derived_columns, of_columns, of_one, of_two, type_of}
use Rattle.query_model.specs.QueryTypes.{type_of_expression, type_of_kind, type_or_number}
use Rattle.query_model.specs.Rules.{Standing, IsClear}
use Rattle.query_model.proofs.Typed.{den_typed}

-- how many numbers the values of a type have as records, and 1 where they are none
abbrev pub width_of_type : ValueType → ℕ
width_of_type type.Number = 1
width_of_type (type.Rec size) = size
width_of_type type.Table = 1

-- the same of a value
abbrev pub width_of_value : Value → ℕ
width_of_value (value.Scalar scalar) = 1
width_of_value (value.Rec parts) = length parts
width_of_value (value.Table entries) = 1

value_width : (ty : ValueType) (v : Value) → IsValueOf ty v → width_of_value v ≡ width_of_type ty
value_width type.Number (value.Scalar scalar) is = refl
value_width (type.Rec size) (value.Rec parts) is = is.count
value_width type.Table (value.Table entries) is = refl
value_width _ _ is = absurd is

-- what stands for a name is as wide as its type, and 1 where it has none
abbrev width_named : Option ValueType → ℕ
width_named found = width_of_type (type_or_number found)

-- where the fields are no records
expression_width : (types : Types) (e : Expression)
    → ((column : ℕ) → width_named (type_named types (var.Field column)) ≡ 1)
    → width_of_type (type_of_expression types e)
    ≡ width_with (width_named types.left) (width_named types.right) e
expression_width types (literal number) fields = refl
expression_width types (read (var.Field column)) fields = fields column
expression_width types (read var.Left) fields = refl
expression_width types (read var.Right) fields = refl
expression_width types (unary operator inner) fields = refl
expression_width types (binary operator left right) fields = refl
expression_width types (choice test left right met other) fields = refl
expression_width types (sum table) fields = refl
expression_width types (count table) fields = refl
expression_width types (most table left) fields = refl
expression_width types (least table left) fields = refl
expression_width types (entry table key other) fields = refl
expression_width types (rec parts) fields = refl
expression_width types (part given place) fields = refl

kind_width : (given : Kind) → width_named (type_of_kind given) ≡ 1
kind_width kind.Int = refl
kind_width (kind.Fixed digits) = refl
kind_width kind.Text = refl
kind_width kind.Number = refl
kind_width kind.Table = refl

column_width : (columns : List Column) (column : ℕ)
    → width_named (type_named (of_columns columns) (var.Field column)) ≡ 1
column_width [] zero = refl
column_width [] (suc column) = refl
column_width (first ∷ others) zero = kind_width first.kind
column_width (first ∷ others) (suc column) = column_width others column

no_field_width : (column : ℕ)
    → width_named (option_and_then (λ found. found) (slice_get [] column)) ≡ 1
no_field_width zero = refl
no_field_width (suc column) = refl

-- on two values, and on one
of_two_width : (columns : List Column) (f g : Qre) (e : Expression)
    → width_of_type (type_of columns f) ≡ width_of f
    → width_of_type (type_of columns g) ≡ width_of g
    → width_of_type (type_of_expression (of_two (type_of columns f) (type_of columns g)) e)
    ≡ width_with (width_of f) (width_of g) e
of_two_width columns f g e first second =
    expression_width (of_two (type_of columns f) (type_of columns g)) e no_field_width
    ∙ ap (λ (width : ℕ). width_with width (width_of_type (type_of columns g)) e) first
    ∙ ap (λ (width : ℕ). width_with (width_of f) width e) second

of_one_width : (columns : List Column) (f : Qre) (e : Expression)
    → width_of_type (type_of columns f) ≡ width_of f
    → width_of_type (type_of_expression (of_one (type_of columns f)) e)
    ≡ width_with (width_of f) 1 e
of_one_width columns f e first =
    expression_width (of_one (type_of columns f)) e no_field_width
    ∙ ap (λ (width : ℕ). width_with width 1 e) first

-- a query is as wide as its type
pub width_is : (columns : List Column) (q : Qre) → width_of_type (type_of columns q) ≡ width_of q
width_is columns (atom pred e) = expression_width (of_columns columns) e (column_width columns)
width_is columns (eps number) = refl
width_is columns (query.choice f g) = width_is columns f
width_is columns (split f g e) =
    of_two_width columns f g e (width_is columns f) (width_is columns g)
width_is columns (iter f number e) = refl
width_is columns (combine f g e) =
    of_two_width columns f g e (width_is columns f) (width_is columns g)
width_is columns (apply f e) = of_one_width columns f e (width_is columns f)
width_is columns (compose f g) = width_is (derived_columns (type_of columns f)) g
width_is columns (collect chosen sync rate f) = refl

-- a value on a word is as wide as the query
pub den_width : (standing : Standing) (columns : List Column) (q : Qre) (word : Word) (v : Value)
    → IsClear standing columns q → IsWordOf columns word → Den q word v
    → width_of_value v ≡ width_of q
den_width standing columns q word v clear is den =
    value_width (type_of columns q) v (den_typed standing columns q word v clear is den)
    ∙ width_is columns q
