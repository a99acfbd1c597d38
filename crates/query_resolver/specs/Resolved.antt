-- Statement. Names and types: a query as it is written is resolved, or refused at the first node
-- that breaks a rule of names, of nesting or of types. The operands of a node are checked from left
-- to right, and then the node: first its names, then whether a collection may stand there, then its
-- types.
use Rattle.std.specs.Prelude.{ℕ, ◌==◌, Bool, ◌&&◌, true, false, List, Result, Ok, Err}
use Rattle.std.specs.List.{list_all}
use Rattle.language_base.specs.declared.refusal.Refusal.{Refusal}
use Rattle.language_base.specs.declared.rule.Rule.TheVariants.{Name, Nested, Mismatch}
use Rattle.item_schema.specs.declared.column.Column.{Column}
use Rattle.value_ops.specs.declared.value.ValueType.{ValueType}
use Rattle.value_ops.specs.declared.value.ValueType.TheVariants.{Number, Rec, Table}
use Rattle.predicates.specs.Fits.{fits, has_texts}
use Rattle.rate_expr.specs.Rates.{preds_of}
use Rattle.query_model.specs.Queries.{Qre, atom, eps, choice, split, iter, combine, apply, compose}
use Rattle.query_model.specs.Queries.{collect}
use Rattle.query_model.specs.QueryTypes as types
use Rattle.query_model.specs.QueryTypes.{derived_columns, type_of}
use Rattle.query_syntax.specs.Keys.{names_of}
use Rattle.query_syntax.specs.Queries as q
use Rattle.query_syntax.specs.Queries.{Query}
use Rattle.query_resolver.specs.Expressions.{expression_over, is_number, is_typed, of_item, of_one}
use Rattle.query_resolver.specs.Expressions.{of_two}
use Rattle.query_resolver.specs.Names.{key_named}
use Rattle.query_resolver.specs.Rates.{rate_over}
use Rattle.query_resolver.specs.Steps.{◌>>=◌, found, provided, refusal}
use Rattle.query_resolver.specs.Tests.{resolved_over}

-- whether a collection may stand at a place: not inside of another, nor on a stream of values
pub data Nesting : Type 0 where
  outside : Nesting
  inside : Nesting

-- a collection may stand there
abbrev pub may_collect : Nesting → Bool
may_collect outside = true
may_collect inside = false

-- the types are equal
abbrev pub same_type : ValueType → ValueType → Bool
same_type Number Number = true
same_type (Rec size) (Rec other) = size == other
same_type Table Table = true
same_type _ _ = false

-- all of these columns have texts
abbrev pub have_texts : List Column → List ℕ → Bool
have_texts columns chosen = list_all (has_texts columns) chosen

-- the query over these columns, or its refusal
unfoldable pub resolved : Nesting → List Column → Query → Result Qre Refusal
resolved nesting columns (q.name name) = Err (refusal Name name.span)
resolved nesting columns (q.atom predicate value span) = do
  pred ← found Name span (resolved_over columns predicate)
  expression ← found Name span (expression_over (of_item columns) value)
  tests ← provided Mismatch span (fits columns pred)
  typed ← provided Mismatch span (is_typed (types.of_columns columns) expression)
  Ok (atom pred expression)
resolved nesting columns (q.eps number span) = Ok (eps number.value)
resolved nesting columns (q.or left right span) = do
  f ← resolved nesting columns left
  g ← resolved nesting columns right
  typed ← provided Mismatch span (same_type (type_of columns g) (type_of columns f))
  Ok (choice f g)
resolved nesting columns (q.split left right value span) = do
  f ← resolved nesting columns left
  g ← resolved nesting columns right
  expression ← found Name span (expression_over of_two value)
  typed ← provided Mismatch span (is_typed (types.of_two (type_of columns f) (type_of columns g))
      expression)
  Ok (split f g expression)
resolved nesting columns (q.iter operand first step span) = do
  f ← resolved nesting columns operand
  expression ← found Name span (expression_over of_two step)
  typed ← provided Mismatch span (is_number (types.of_two Number (type_of columns f)) expression)
  Ok (iter f first.value expression)
resolved nesting columns (q.combine left right value span) = do
  f ← resolved nesting columns left
  g ← resolved nesting columns right
  expression ← found Name span (expression_over of_two value)
  typed ← provided Mismatch span (is_typed (types.of_two (type_of columns f) (type_of columns g))
      expression)
  Ok (combine f g expression)
resolved nesting columns (q.apply operand value span) = do
  f ← resolved nesting columns operand
  expression ← found Name span (expression_over of_one value)
  typed ← provided Mismatch span (is_typed (types.of_one (type_of columns f)) expression)
  Ok (apply f expression)
resolved nesting columns (q.compose left right span) = do
  f ← resolved nesting columns left
  g ← resolved inside (derived_columns (type_of columns f)) right
  Ok (compose f g)
resolved nesting columns (q.collect key sync rate operand span) = do
  f ← resolved inside columns operand
  chosen ← found Name span (key_named columns (names_of key))
  pred ← found Name span (resolved_over columns sync)
  words ← found Name span (rate_over columns rate)
  nested ← provided Nested span (may_collect nesting)
  typed ← provided Mismatch span (same_type (type_of columns f) Number
      && (have_texts columns chosen && (fits columns pred
      && list_all (fits columns) (preds_of words))))
  Ok (collect chosen pred words f)
