-- For the prover. What a query, or an expression in it, is resolved to.
use Rattle.std.specs.Prelude.{◌≡◌, ◌&&◌, Bool, true, List, Some, Result, Ok}
use Rattle.std.specs.List.{list_all}
use Rattle.item_schema.specs.declared.column.Column.{Column}
use Rattle.language_base.specs.declared.refusal.Refusal.{Refusal}
use Rattle.language_base.specs.declared.rule.Rule.TheVariants.{Name, Mismatch}
use Rattle.language_base.specs.declared.span.Span.{Span}
use Rattle.predicates.specs.Fits.{fits}
use Rattle.predicates.specs.Plain as predicates
use Rattle.predicates.specs.Predicates.{Predicate}
use Rattle.query_model.specs.Queries.{Qre, plain_of}
use Rattle.query_model.specs.QueryTypes.{derived_columns, of_columns, type_of_expression}
use Rattle.query_model.specs.Rules.{IsTyped}
use Rattle.query_model.specs.declared.query.Shape.{Shape}
use Rattle.query_syntax.specs.Expressions as e
use Rattle.query_syntax.specs.Keys.{names_of}
use Rattle.query_syntax.specs.Predicates as p
use Rattle.query_syntax.specs.Queries as q
use Rattle.query_syntax.specs.Rates as r
use Rattle.query_syntax.specs.declared.key.Key.{Key}
use Rattle.rate_expr.specs.Plain as rates
use Rattle.rate_expr.specs.Rates.{preds_of}
use Rattle.query_resolver.specs.Expressions.{Scope, expression_over, is_number, is_typed, of_item}
use Rattle.query_resolver.specs.Findings.{IsResolved, IsUnresolved, places_in}
use Rattle.query_resolver.specs.Names.{key_named}
use Rattle.query_resolver.specs.Nodes.{places_of}
use Rattle.query_resolver.specs.Rates.{rate_over}
use Rattle.query_resolver.specs.Resolved as whole
use Rattle.query_resolver.specs.Resolved.{Nesting, have_texts, inside, same_type}
use Rattle.query_resolver.specs.Scopes.{HasFittingNumbers}
use Rattle.query_resolver.specs.Steps.{◌>>=◌, found, provided}
use Rattle.query_resolver.specs.Tests.{resolved_over}
use Rattle.query_resolver.specs.declared.query_types.Typed.{Typed}
use Rattle.query_resolver.specs.declared.shapes.Items.{Items}
use Rattle.query_resolver.specs.declared.stop.CheckStop.{CheckStop}
use Rattle.query_resolver.specs.declared.streams.Parts.{Parts}
use Rattle.expressions.specs.Expressions.{Expression}
use Rattle.expressions.specs.Expressions as values
use Rattle.expressions.specs.Typing.{IsNumber, Types}
use Rattle.expressions.specs.declared.expr.Expr.{Expr}
use Rattle.value_ops.specs.declared.value.ValueType.{ValueType}
use Rattle.value_ops.specs.declared.value.ValueType.TheVariants.{Number}

-- the columns of a stream
abbrev pub columns_of : Items → List Column
columns_of items = items.schema.now.columns

-- the types are those of the columns
abbrev pub HasTypes : Items → Type 0
HasTypes items = items.types.now ≡ (of_columns (columns_of items)).fields

-- a node of this shape at this place, and the type of its values
pub record IsNode (shape : Shape) (span : Span) (ty : ValueType) (made : Typed) : Type 0 where
  pub shape_is : made.query.value.shape ≡ shape
  pub span_is : made.query.value.span ≡ span
  pub type_is : made.ty ≡ ty

-- the query as it is written is resolved to this one
pub record IsMade (nesting : Nesting) (columns : List Column) (tree : q.Query) (made : Typed)
    : Type 0 where
  pub resolved : whole.resolved nesting columns tree ≡ Ok (plain_of made.query.value.shape)
  pub typed : IsResolved columns made
  pub places : places_in made.query.value ≡ places_of tree

-- the predicate and the expression of an atom are resolved to these
pub record IsNamedAtom (columns : List Column) (predicate : p.Predicate) (tree : e.Expression)
    (pred : Predicate) (value : Expression) : Type 0 where
  pub tested : Some pred ≡ resolved_over columns predicate
  pub named : Some value ≡ expression_over (of_item columns) tree
  pub numbers : HasFittingNumbers value

-- the parts of a collection are resolved to these
pub record IsNamedCollection (columns : List Column) (key : Key) (sync : p.Predicate)
    (rate : r.Rate) (parts : Parts) : Type 0 where
  pub keyed : Some parts.key ≡ key_named columns (names_of key)
  pub tested : Some (predicates.plain_of parts.sync) ≡ resolved_over columns sync
  pub rated : Some (rates.plain_of parts.rate) ≡ rate_over columns rate

-- what is collected is a number, the key columns have texts, and each test's column the test's kind
abbrev pub parts_fit : List Column → ValueType → Parts → Bool
parts_fit columns type parts =
    same_type type Number
    && (have_texts columns parts.key && (fits columns (predicates.plain_of parts.sync)
    && list_all (fits columns) (preds_of (rates.plain_of parts.rate))))

-- the query is refused with this stop
abbrev pub IsRefused : Nesting → List Column → q.Query → CheckStop → Type 0
IsRefused nesting columns tree stop = IsUnresolved (whole.resolved nesting columns tree) stop

-- the first of two queries is refused, or else the second
abbrev pub IsRefusedOfTwo : Nesting → List Column → q.Query → q.Query → CheckStop → Type 0
IsRefusedOfTwo nesting columns f g stop = IsUnresolved
    (whole.resolved nesting columns f >>= (λ (left : Qre). whole.resolved nesting columns g)) stop

-- from one operand, or from two, the node is made, however the operands are written
abbrev pub IsMadeOfOne : (q.Query → q.Query) → Typed → Typed → Type 0
IsMadeOfOne node operand made = (nesting : Nesting) (columns : List Column) (f : q.Query)
    → IsMade nesting columns f operand → IsMade nesting columns (node f) made

abbrev pub IsMadeOfTwo : (q.Query → q.Query → q.Query) → Typed → Typed → Typed → Type 0
IsMadeOfTwo node left right made = (nesting : Nesting) (columns : List Column) (f g : q.Query)
    → IsMade nesting columns f left → IsMade nesting columns g right
    → IsMade nesting columns (node f g) made

-- over one operand, or over two, the node is refused
abbrev pub IsRefusedOverOne : (q.Query → q.Query) → Typed → CheckStop → Type 0
IsRefusedOverOne node operand stop = (nesting : Nesting) (columns : List Column) (f : q.Query)
    → IsMade nesting columns f operand → IsRefused nesting columns (node f) stop

abbrev pub IsRefusedOverTwo : (q.Query → q.Query → q.Query) → Typed → Typed → CheckStop → Type 0
IsRefusedOverTwo node left right stop = (nesting : Nesting) (columns : List Column) (f g : q.Query)
    → IsMade nesting columns f left → IsMade nesting columns g right
    → IsRefused nesting columns (node f g) stop

-- a composition is made of two operands, the right one on the values of the left one
abbrev pub IsComposed : Span → Typed → Typed → Typed → Type 0
IsComposed span left right made = (nesting : Nesting) (columns : List Column) (f g : q.Query)
    → IsMade nesting columns f left → IsMade inside (derived_columns left.ty) g right
    → IsMade nesting columns (q.compose f g span) made

-- the node is made, or refused, over an operand inside of a collection
abbrev pub IsMadeOfInner : Nesting → List Column → (q.Query → q.Query) → Typed → Typed → Type 0
IsMadeOfInner nesting columns node operand made =
    (f : q.Query) → IsMade inside columns f operand → IsMade nesting columns (node f) made

abbrev pub IsRefusedOverInner : Nesting → List Column → (q.Query → q.Query) → Typed → CheckStop
    → Type 0
IsRefusedOverInner nesting columns node operand stop =
    (f : q.Query) → IsMade inside columns f operand → IsRefused nesting columns (node f) stop

-- what a well typed expression is made to
abbrev pub typed_then : Scope → Types → e.Expression → Span → (Expression → Qre)
    → Result Qre Refusal
typed_then scope types tree span make =
    found Name span (expression_over scope tree) >>= (λ (expression : Expression).
    provided Mismatch span (is_typed types expression) >>= (λ (typed : Unit {0}).
    Ok (make expression)))

-- what an expression that is a number is made to
abbrev pub number_then : Scope → Types → e.Expression → Span → (Expression → Qre)
    → Result Qre Refusal
number_then scope types tree span make =
    found Name span (expression_over scope tree) >>= (λ (expression : Expression).
    provided Mismatch span (is_number types expression) >>= (λ (typed : Unit {0}).
    Ok (make expression)))

-- the expression is resolved to this one, which has this type
pub record IsValueOver (scope : Scope) (types : Types) (tree : e.Expression) (value : Expr)
    (ty : ValueType) : Type 0 where
  pub named : expression_over scope tree ≡ Some (values.plain_of value)
  pub passes : is_typed types (values.plain_of value) ≡ true
  pub typed : IsTyped types (values.plain_of value)
  pub type : ty ≡ type_of_expression types (values.plain_of value)

-- the expression is resolved to this one, which is a number
pub record IsNumberOver (scope : Scope) (types : Types) (tree : e.Expression) (value : Expr)
    : Type 0 where
  pub named : expression_over scope tree ≡ Some (values.plain_of value)
  pub passes : is_number types (values.plain_of value) ≡ true
  pub number : IsNumber types (values.plain_of value)
