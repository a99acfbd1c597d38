-- For the prover. What the passes before the rules of words find.
use Rattle.std.specs.Prelude.{◌≡◌, ◌⊎◌, ◌≤◌, true, List, None, Result, Ok}
use Rattle.item_schema.specs.Layout.{Layout}
use Rattle.item_schema.specs.declared.column.Column.{Column}
use Rattle.language_base.specs.declared.refusal.Refusal.{Refusal}
use Rattle.language_base.specs.declared.rule.Rule.TheVariants.{Cells, Name, Size}
use Rattle.language_base.specs.declared.span.Span.{Span}
use Rattle.query_lets.specs.Unfolded.{unfolded}
use Rattle.query_lets.specs.Words.{wrong_name}
use Rattle.query_model.specs.Bounds.{slots_of}
use Rattle.query_model.specs.Queries.{Qre, plain_of}
use Rattle.query_model.specs.Rules.{free}
use Rattle.query_model.specs.Sizes.{HasFewPositions, IsSmall, max_slots}
use Rattle.query_model.specs.declared.query.Query as memory
use Rattle.query_syntax.specs.Programs.{Program}
use Rattle.query_syntax.specs.Queries.{Query}
use Rattle.query_syntax.specs.Spans.{query_span}
use Rattle.query_resolver.specs.Findings.{CanBeAsked, IsUnresolved, KeepsTypes, derives_many}
use Rattle.query_resolver.specs.Findings.{first_in, places_in}
use Rattle.query_resolver.specs.Measures.{limited, measured}
use Rattle.query_resolver.specs.Layouts.{layout_of}
use Rattle.query_resolver.specs.Nodes.{places_of}
use Rattle.query_resolver.specs.Resolved.{outside, resolved}
use Rattle.query_model.specs.Few.{has_few_cells}
use Rattle.query_resolver.specs.Sizes.{has_few_nodes}
use Rattle.query_resolver.specs.Steps.{◌>>=◌, because, provided, unless}
use Rattle.query_resolver.specs.declared.measurement.Measured.{Measured}
use Rattle.query_resolver.specs.declared.stop.CheckStop.{CheckStop}

-- the passes over the names of columns and lets, and over the nodes
abbrev pub counted : Program → Result (Unit {0}) Refusal
counted program = because Name (unless (wrong_name program))
    >>= (λ right. provided Size (query_span (unfolded program)) (has_few_nodes (unfolded program)))

-- those passes refuse nothing
pub record IsCounted (program : Program) : Type 0 where
  pub right : wrong_name program ≡ None
  pub few : has_few_nodes (unfolded program) ≡ true

-- the pass over the cells of a stream's items
abbrev pub distinguished : List Column → Span → Qre → Result (Unit {0}) Refusal
distinguished columns span query = provided Cells span (has_few_cells columns query)

-- the pass over the cells of the values that compositions pass on
abbrev pub values_apart : List Column → memory.Query → Result (Unit {0}) Refusal
values_apart columns query = because Cells (unless (first_in derives_many columns free query))

-- the query in memory is that of the tree, and its types fit
pub record IsNamed (columns : List Column) (tree : Query) (query : memory.Query) : Type 0 where
  pub named : resolved outside columns tree ≡ Ok (plain_of query.shape)
  pub types : KeepsTypes columns (plain_of query.shape)
  pub places : places_in query ≡ places_of tree

-- no node has too many positions, nor the whole query too many slots
pub record IsLimited (query : memory.Query) : Type 0 where
  pub positions : HasFewPositions (plain_of query.shape)
  pub slots : slots_of (plain_of query.shape) ≤ max_slots
  pub limited : (layout : Layout) (tree : Query) → places_of tree ≡ places_in query
      → limited layout tree (plain_of query.shape) ≡ Ok tt

-- it is refused by the limits, or after these by the cells of items, or after those by the cells of
-- values
abbrev pub IsBeyond : List Column → Span → memory.Query → CheckStop → Type 0
IsBeyond columns span query stop =
    ((layout : Layout) (tree : Query) → places_of tree ≡ places_in query
    → IsUnresolved (limited layout tree (plain_of query.shape)) stop)
    ⊎ (IsLimited query × (IsUnresolved (distinguished columns span (plain_of query.shape)) stop
    ⊎ ((distinguished columns span (plain_of query.shape) ≡ Ok tt)
    × IsUnresolved (values_apart columns query) stop)))

-- the result of all passes but the last over the program
pub record IsMeasured (program : Program) (made : Measured) : Type 0 where
  pub layout : made.schema ≡ layout_of program.stream
  pub cells : made.cells.layout ≡ layout_of program.stream
  pub measured : measured program ≡ Ok (plain_of made.query.value.shape)
  pub types : KeepsTypes (layout_of program.stream).columns (plain_of made.query.value.shape)
  pub places : places_in made.query.value ≡ places_of (unfolded program)
  pub small : IsSmall (layout_of program.stream).columns (plain_of made.query.value.shape)
  pub asked : CanBeAsked made.cells (plain_of made.query.value.shape)
