-- Statement. The rules that make queries mean one thing: types, one reading, and words on which
-- operands agree. They are asked at every node, over all words of items of the node's stream.
use Rattle.std.specs.Prelude.{◌≡◌, ◌==◌, ◌≤◌, ℕ, true, List, FitsSigned, length}
use Rattle.std.specs.Int.{w64}
use Rattle.std.specs.List.{AllByRecursion, IsDistinct}
use Rattle.value_ops.specs.declared.field.Field.{Field}
use Rattle.value_ops.specs.declared.value.ValueType.TheVariants.{Number}
use Rattle.expressions.specs.Expressions.{Expression}
use Rattle.expressions.specs.Typing.{Types, HasType}
use Rattle.item_schema.specs.declared.column.Column.{Column}
use Rattle.item_schema.specs.Items.{IsItemOf}
use Rattle.predicates.specs.Fits.{fits, has_texts}
use Rattle.predicates.specs.Predicates.{Predicate}
use Rattle.predicates.specs.Truth.{holds}
use Rattle.rate_expr.specs.Rates.{preds_of}
use Rattle.rate_expr.specs.Readings.{AreDisjoint, AreEqual, HasAllButEmpty, HasOneFactoring}
use Rattle.rate_expr.specs.Readings.{HaveOneSplit}
use Rattle.query_model.specs.Queries.{Qre, atom, eps, choice, split, iter, combine, apply, compose}
use Rattle.query_model.specs.Queries.{collect}
use Rattle.query_model.specs.QueryTypes.{derived_columns, of_columns, of_one, of_two, type_of}
use Rattle.query_model.specs.QueryTypes.{type_of_expression}
use Rattle.query_model.specs.Rates.{rate_of}

-- A compose is free where only composes stand above it: its value may be missing on words of its
-- rate. Everything else is bound.
pub data Standing : Type 0 where
  free : Standing
  bound : Standing

-- the tests are on columns that have their kinds, and some item meets the predicate
pub record CanBeMet (columns : List Column) (pred : Predicate) : Type 0 where
  pub fit : fits columns pred ≡ true
  pub item : List Field
  pub is_item : IsItemOf columns item
  pub meets : holds pred item ≡ true

-- the columns of a key: there is one, all have texts, and none stands twice
pub record AreKeyColumns (columns : List Column) (chosen : List ℕ) : Type 0 where
  pub some : 1 ≤ length chosen
  pub texts : AllByRecursion (λ column. has_texts columns column ≡ true) chosen
  pub distinct : IsDistinct ◌==◌ chosen

-- the expression is well typed
abbrev pub IsTyped : Types → Expression → Type 0
IsTyped types expression = HasType types expression (type_of_expression types expression)

-- no collect stands in the query
abbrev pub HasNoCollect : Qre → Type 0
HasNoCollect (atom pred expression) = Unit {0}
HasNoCollect (eps number) = Unit {0}
HasNoCollect (choice f g) = HasNoCollect f × HasNoCollect g
HasNoCollect (split f g expression) = HasNoCollect f × HasNoCollect g
HasNoCollect (iter f number expression) = HasNoCollect f
HasNoCollect (combine f g expression) = HasNoCollect f × HasNoCollect g
HasNoCollect (apply f expression) = HasNoCollect f
HasNoCollect (compose f g) = HasNoCollect f × HasNoCollect g
HasNoCollect (collect chosen sync rate f) = ⊥

-- a compose that is bound has a value on each word on which its left operand has one
abbrev pub IsFedWell : Standing → List Column → Qre → Type 0
IsFedWell free columns g = Unit {0}
IsFedWell bound columns g = HasAllButEmpty columns (rate_of g)

-- the rules hold at every node of the query
abbrev pub IsClear : Standing → List Column → Qre → Type 0
IsClear standing columns (atom pred expression) =
    CanBeMet columns pred × IsTyped (of_columns columns) expression
IsClear standing columns (eps number) = FitsSigned w64 number
IsClear standing columns (choice f g) =
    IsClear bound columns f × IsClear bound columns g
    × (type_of columns g ≡ type_of columns f) × AreDisjoint columns (rate_of f) (rate_of g)
IsClear standing columns (split f g expression) =
    IsClear bound columns f × IsClear bound columns g
    × IsTyped (of_two (type_of columns f) (type_of columns g)) expression
    × HaveOneSplit columns (rate_of f) (rate_of g)
IsClear standing columns (iter f number expression) =
    IsClear bound columns f × FitsSigned w64 number
    × HasType (of_two Number (type_of columns f)) expression Number
    × HasOneFactoring columns (rate_of f)
IsClear standing columns (combine f g expression) =
    IsClear bound columns f × IsClear bound columns g
    × IsTyped (of_two (type_of columns f) (type_of columns g)) expression
    × AreEqual columns (rate_of f) (rate_of g)
IsClear standing columns (apply f expression) =
    IsClear bound columns f × IsTyped (of_one (type_of columns f)) expression
IsClear standing columns (compose f g) =
    IsClear standing columns f × IsClear standing (derived_columns (type_of columns f)) g
    × HasNoCollect g × IsFedWell standing (derived_columns (type_of columns f)) g
IsClear standing columns (collect chosen sync rate f) =
    IsClear bound columns f × (type_of columns f ≡ Number) × HasNoCollect f
    × AreKeyColumns columns chosen × (fits columns sync ≡ true)
    × AllByRecursion (CanBeMet columns) (preds_of rate)
