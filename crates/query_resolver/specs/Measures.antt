-- Statement. The query of a program before the rules of words: the rules are checked in passes, and
-- the first pass that finds a broken rule decides. The rules of the text are not among them, since
-- they are checked before there is a program.
use Rattle.std.specs.Prelude.{Result, Ok}
use Rattle.language_base.specs.declared.refusal.Refusal.{Refusal}
use Rattle.language_base.specs.declared.rule.Rule.TheVariants.{Cells, Name, Size}
use Rattle.item_schema.specs.Layout.{Layout}
use Rattle.query_model.specs.Queries.{Qre}
use Rattle.query_lets.specs.Unfolded.{unfolded}
use Rattle.query_lets.specs.Words.{wrong_name}
use Rattle.query_syntax.specs.Programs.{Program, Stream}
use Rattle.query_syntax.specs.Queries.{Query}
use Rattle.query_syntax.specs.Spans.{query_span}
use Rattle.query_resolver.specs.Layouts.{layout_of}
use Rattle.query_resolver.specs.Nodes.{places_of}
use Rattle.query_resolver.specs.Resolved.{outside, resolved}
use Rattle.query_model.specs.Few.{has_few_cells}
use Rattle.query_resolver.specs.Sizes.{derives_many_cells, first_node, has_few_nodes, has_few_slots}
use Rattle.query_resolver.specs.Sizes.{has_many_positions}
use Rattle.query_resolver.specs.Steps.{◌>>=◌, because, provided, unless}

-- Positions and slots: no node's rate has more than 128 positions, and the whole query does not
-- have too many slots.
unfoldable pub limited : Layout → Query → Qre → Result (Unit {0}) Refusal
limited layout tree query = do
  positions ← because Size (unless
      (first_node has_many_positions layout.columns query (places_of tree)))
  provided Size (query_span tree) (has_few_slots query)

-- Cells: first those of the stream's items, then those of the values that compositions pass on.
unfoldable pub parted : Stream → Query → Qre → Result (Unit {0}) Refusal
parted stream tree query = do
  cells ← provided Cells stream.span (has_few_cells (layout_of stream).columns query)
  because Cells (unless (first_node (λ node. derives_many_cells node.columns node.query)
      (layout_of stream).columns query (places_of tree)))

-- All passes but the last: names of columns and lets, nodes, names and types, positions and slots,
-- cells. Those after the first are over the main query after lets.
unfoldable pub measured : Program → Result Qre Refusal
measured program = do
  right ← because Name (unless (wrong_name program))
  few ← provided Size (query_span (unfolded program)) (has_few_nodes (unfolded program))
  query ← resolved outside (layout_of program.stream).columns (unfolded program)
  small ← limited (layout_of program.stream) (unfolded program) query
  cells ← parted program.stream (unfolded program) query
  Ok query
