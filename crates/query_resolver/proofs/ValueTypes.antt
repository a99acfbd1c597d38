-- Where types are kept, what a query gives has a type that values have.
use Rattle.std.proofs.Common.{◌≡◌, ℕ, zero, suc, List, [], ◌∷◌, map, subst, sym}
use Rattle.std.specs.List.{slice_get}
use Rattle.std.specs.Option.{option_and_then}
use Rattle.item_schema.specs.declared.column.Column.{Column}
use Rattle.item_schema.specs.declared.column.Kind.{Kind}
use Rattle.item_schema.specs.declared.column.Kind.TheVariants as kind
use Rattle.query_model.specs.Queries.{Qre, atom, eps, choice, split, iter, combine, apply, compose}
use Rattle.query_model.specs.Queries.{collect, plain_of}
use Rattle.query_model.specs.QueryTypes.{derived_columns, of_columns, of_one, of_two, type_of}
use Rattle.query_model.specs.QueryTypes.{type_of_expression, type_of_kind, type_or_number}
use Rattle.query_model.specs.Rules.{IsTyped}
use Rattle.query_syntax.specs.Queries as q
use Rattle.query_resolver.specs.Findings.{KeepsTypes}
use Rattle.query_resolver.specs.Resolutions.{IsMade}
use Rattle.query_resolver.specs.Resolved.{Nesting}
use Rattle.query_resolver.specs.declared.query_types.Typed.{Typed}
use Rattle.expressions.specs.Expressions.{Expression, read, rec}
use Rattle.value_ops.specs.Types.{IsType}
use Rattle.expressions.specs.Typing.{Types, type_named}
use Rattle.expressions.specs.declared.expr.Var.{Var}
use Rattle.expressions.specs.declared.expr.Var.TheVariants.{Field, Left, Right}
use Rattle.value_ops.specs.declared.value.ValueType.{ValueType}

-- each name that has a type has one that values have
abbrev NamesValues : Types → Type 0
NamesValues types = (name : Var) → IsType (type_or_number (type_named types name))

kind_type : (kind : Kind) → IsType (type_or_number (type_of_kind kind))
kind_type kind.Int = tt
kind_type (kind.Fixed digits) = tt
kind_type kind.Text = tt
kind_type kind.Number = tt
kind_type kind.Table = tt

field_type : (columns : List Column) (i : ℕ)
    → IsType (type_or_number (option_and_then (λ found. found)
    (slice_get (map (λ c. type_of_kind c.kind) columns) i)))
field_type [] i = tt
field_type (column ∷ columns) zero = kind_type column.kind
field_type (column ∷ columns) (suc i) = field_type columns i

fields_values : (columns : List Column) → NamesValues (of_columns columns)
fields_values columns (Field i) = field_type columns i
fields_values columns Left = tt
fields_values columns Right = tt

one_value : (type : ValueType) → IsType type → NamesValues (of_one type)
one_value type is (Field i) = tt
one_value type is Left = is
one_value type is Right = tt

two_values : (left right : ValueType) → IsType left → IsType right → NamesValues (of_two left right)
two_values left right is is' (Field i) = tt
two_values left right is is' Left = is
two_values left right is is' Right = is'

-- so a well-typed expression has one
expression_type : (types : Types) → NamesValues types → (e : Expression) → IsTyped types e
    → IsType (type_of_expression types e)
expression_type types names (read name) is = names name
expression_type types names (rec parts) is = is.1
expression_type types names _ is = tt

-- and so has a query
pub gives_values : (columns : List Column) (query : Qre) → KeepsTypes columns query
    → IsType (type_of columns query)
gives_values columns (atom pred e) keeps =
    expression_type (of_columns columns) (fields_values columns) e keeps.1
gives_values columns (eps number) keeps = tt
gives_values columns (choice f g) keeps = gives_values columns f keeps.0
gives_values columns (split f g e) keeps =
    expression_type (of_two (type_of columns f) (type_of columns g))
    (two_values (type_of columns f) (type_of columns g) (gives_values columns f keeps.0)
    (gives_values columns g keeps.1)) e keeps.2
gives_values columns (iter f number e) keeps = tt
gives_values columns (combine f g e) keeps =
    expression_type (of_two (type_of columns f) (type_of columns g))
    (two_values (type_of columns f) (type_of columns g) (gives_values columns f keeps.0)
    (gives_values columns g keeps.1)) e keeps.2
gives_values columns (apply f e) keeps =
    expression_type (of_one (type_of columns f))
    (one_value (type_of columns f) (gives_values columns f keeps.0)) e keeps.1
gives_values columns (compose f g) keeps =
    gives_values (derived_columns (type_of columns f)) g keeps.1
gives_values columns (collect chosen sync rate f) keeps = tt

-- where it is known as another type, that is one too
pub known_value : (columns : List Column) (query : Qre) (type : ValueType)
    → KeepsTypes columns query → type ≡ type_of columns query → IsType type
known_value columns query type keeps is = subst IsType (sym is) (gives_values columns query keeps)

-- so the values of a query that is made have one
pub made_value : (nesting : Nesting) (columns : List Column) (tree : q.Query) (made : Typed)
    → IsMade nesting columns tree made → IsType made.ty
made_value nesting columns tree made is =
    known_value columns (plain_of made.query.value.shape) made.ty is.typed.keeps is.typed.type
