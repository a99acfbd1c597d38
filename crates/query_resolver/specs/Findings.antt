-- For the prover. What a pass over a query finds, as its caller needs it.
use Rattle.std.specs.Prelude.{◌≡◌, Bool, true, Result, Err, List, ◌∷◌, [], ◌++◌, Option, None, Some}
use Rattle.std.specs.Prelude.{FitsSigned, if◌then◌else◌}
use Rattle.std.specs.List.{Contains}
use Rattle.std.specs.Option.{option_or}
use Rattle.language_base.specs.declared.refusal.Refusal.{Refusal}
use Rattle.language_base.specs.declared.span.Span.{Span}
use Rattle.predicates.specs.Predicates.{Predicate}
use Rattle.query_model.specs.Queries.{Qre, atom, eps, choice, split, iter, combine, apply, compose}
use Rattle.query_model.specs.Queries.{collect, plain_of}
use Rattle.item_schema.specs.declared.column.Column.{Column}
use Rattle.predicate_cells.specs.Cells.{AllFit, Partition}
use Rattle.rate_expr.specs.Rates.{preds_of}
use Rattle.query_model.specs.Few.{has_few_cells}
use Rattle.query_model.specs.QueryTypes.{derived_columns, type_of, of_columns, of_one, of_two}
use Rattle.query_model.specs.Rules.{AreKeyColumns, HasNoCollect, Standing, IsTyped}
use Rattle.query_model.specs.Sizes.{HasFewPositions, HaveFewCells, predicates_of}
use Rattle.query_model.specs.declared.query.Query.{Query}
use Rattle.query_model.specs.declared.query.Shape.{Shape}
use Rattle.query_model.specs.declared.query.Shape.TheVariants.{Atom, Eps, Or', Split', Iter'}
use Rattle.query_model.specs.declared.query.Shape.TheVariants.{Combine', Apply', Compose', Collect'}
use Rattle.query_resolver.specs.Nodes.{Node, Places, alone, first_where, nodes_in}
use Rattle.query_resolver.specs.Nodes.{with_one, with_two}
use Rattle.query_resolver.specs.Sizes.{derives_many_cells}
use Rattle.query_resolver.specs.Steps.{refusal}
use Rattle.std.specs.Int.{w64}
use Rattle.predicates.specs.Fits.{fits}
use Rattle.query_resolver.specs.declared.query_types.Typed.{Typed}
use Rattle.query_resolver.specs.declared.stop.CheckStop.{CheckStop}
use Rattle.query_resolver.specs.declared.stop.CheckStop.TheVariants.{Refused, Memory}
use Rattle.expressions.specs.Typing.{HasType}
use Rattle.value_ops.specs.declared.value.ValueType.{ValueType}
use Rattle.value_ops.specs.declared.value.ValueType.TheVariants.{Number}

-- the stop is the refusal that was found, or out of memory
abbrev pub IsUnresolved : {A : Type 0} → Result A Refusal → CheckStop → Type 0
IsUnresolved found (Refused refusal) = found ≡ Err refusal
IsUnresolved found Memory = Unit {0}

-- the places of a query of this shape
abbrev pub places_at : Shape → Span → Places
places_at (Atom pred value) = alone
places_at (Eps number) = alone
places_at (Or' p first a q second b) = with_two (places_at first a) (places_at second b)
places_at (Split' p first a q second b value) = with_two (places_at first a) (places_at second b)
places_at (Iter' p inner a number value) = with_one (places_at inner a)
places_at (Combine' p first a q second b value) = with_two (places_at first a) (places_at second b)
places_at (Apply' p inner a value) = with_one (places_at inner a)
places_at (Compose' p first a q second b) = with_two (places_at first a) (places_at second b)
places_at (Collect' key sync rate p inner a) = with_one (places_at inner a)

-- the places of a query in memory
abbrev pub places_in : Query → Places
places_in query = places_at query.shape query.span

-- the nodes of a query in memory
abbrev pub nodes_at : List Column → Standing → Query → List Node
nodes_at columns standing query = nodes_in columns standing (plain_of query.shape) (places_in query)

-- the place of the first node of a query in memory that passes the test
abbrev pub first_in : (Node → Bool) → List Column → Standing → Query → Option Span
first_in is_so columns standing query =
    first_where is_so (nodes_in columns standing (plain_of query.shape) (places_in query))

-- the same of the nodes of one operand or of two, with one more node after them
abbrev pub first_over : (Node → Bool) → Node → List Column → Standing → Query → Option Span
first_over is_so node columns standing f = first_where is_so
    (nodes_in columns standing (plain_of f.shape) (places_in f) ++ node ∷ [])

abbrev pub first_over_two : (Node → Bool) → Node → List Column → Standing → Query → List Column
    → Standing → Query → Option Span
first_over_two is_so node columns standing f others other g = first_where is_so
    (nodes_in columns standing (plain_of f.shape) (places_in f)
    ++ nodes_in others other (plain_of g.shape) (places_in g) ++ node ∷ [])

-- the node is a composition whose right operand distinguishes too many values of the left one
abbrev pub derives_many : Node → Bool
derives_many node = derives_many_cells node.columns node.query

-- the place of the first such node in the right operand of a composition, over these columns of
-- values; if there is none, the place of the composition if it is one itself
abbrev pub first_after : List Column → Standing → Query → Span → Option Span
first_after values standing second span = option_or (first_in derives_many values standing second)
    (if has_few_cells values (plain_of second.shape) then None else Some span)

-- At each node, tests are of the kinds of their columns, and expressions are well typed with
-- numbers of 64 bits. No collection stands in another or on the right of a composition, and what is
-- collected is a number.
abbrev pub KeepsTypes : List Column → Qre → Type 0
KeepsTypes columns (atom pred expression) =
    (fits columns pred ≡ true) × IsTyped (of_columns columns) expression
KeepsTypes columns (eps number) = FitsSigned w64 number
KeepsTypes columns (choice f g) =
    KeepsTypes columns f × KeepsTypes columns g × (type_of columns g ≡ type_of columns f)
KeepsTypes columns (split f g expression) =
    KeepsTypes columns f × KeepsTypes columns g
    × IsTyped (of_two (type_of columns f) (type_of columns g)) expression
KeepsTypes columns (iter f number expression) =
    KeepsTypes columns f × FitsSigned w64 number
    × HasType (of_two Number (type_of columns f)) expression Number
KeepsTypes columns (combine f g expression) =
    KeepsTypes columns f × KeepsTypes columns g
    × IsTyped (of_two (type_of columns f) (type_of columns g)) expression
KeepsTypes columns (apply f expression) =
    KeepsTypes columns f × IsTyped (of_one (type_of columns f)) expression
KeepsTypes columns (compose f g) =
    KeepsTypes columns f × KeepsTypes (derived_columns (type_of columns f)) g × HasNoCollect g
KeepsTypes columns (collect chosen sync rate f) =
    KeepsTypes columns f × (type_of columns f ≡ Number) × HasNoCollect f
    × AreKeyColumns columns chosen × (fits columns sync ≡ true)
    × AllFit columns (preds_of rate)

-- the same over some columns whose fields have these types
abbrev pub KeepsTypesOver : List (Option ValueType) → Qre → Type 0
KeepsTypesOver fields query =
    (columns : List Column) × (fields ≡ (of_columns columns).fields) × KeepsTypes columns query

-- the cells were made with each of the predicates
abbrev pub AreAmong : Partition → List Predicate → Type 0
AreAmong cells preds = (pred : Predicate) → Contains preds pred → Contains cells.preds pred

-- the query keeps types and limits, and the cells were made with each of its predicates
pub record CanBeAsked (cells : Partition) (query : Qre) : Type 0 where
  pub types : KeepsTypes cells.layout.columns query
  pub few : HasFewPositions query
  pub derived : HaveFewCells cells.layout.columns query
  pub members : AreAmong cells (predicates_of query)

-- a query with its type
pub record IsResolved (columns : List Column) (made : Typed) : Type 0 where
  pub type : made.ty ≡ type_of columns (plain_of made.query.value.shape)
  pub keeps : KeepsTypes columns (plain_of made.query.value.shape)
