-- What the passes before the rules of words have found where they refuse nothing.
use Rattle.std.proofs.Common.{◌≡◌, true, None, Ok, IfOk}
use Rattle.item_schema.specs.Layout.{Layout}
use Rattle.language_base.specs.declared.rule.Rule.TheVariants.{Cells, Name, Size}
use Rattle.query_lets.specs.Unfolded.{unfolded}
use Rattle.query_lets.specs.Words.{wrong_name}
use Rattle.query_model.specs.Few.{has_few_cells}
use Rattle.query_model.specs.Queries.{Qre}
use Rattle.query_syntax.specs.Programs.{Program, Stream}
use Rattle.query_syntax.specs.Queries.{Query}
use Rattle.query_syntax.specs.Spans.{query_span}
use Rattle.query_resolver.specs.Findings.{derives_many}
use Rattle.query_resolver.specs.Layouts.{layout_of}
use Rattle.query_resolver.specs.Measures.{limited, measured, parted}
use Rattle.query_resolver.specs.Nodes.{places_of}
use Rattle.query_resolver.specs.Resolved.{outside, resolved}
use Rattle.query_resolver.specs.Sizes.{first_node, has_few_nodes, has_few_slots}
use Rattle.query_resolver.specs.Sizes.{has_many_positions}
use Rattle.query_resolver.specs.Steps.{because, provided, unless}
use Rattle.rewritten_texts.proofs.Steps.{after_none, after_step, after_test, none_there, of_step}
use Rattle.rewritten_texts.proofs.Steps.{test_passed, weaker}

-- no node has too many positions, nor the query too many slots
pub record IsLimited (layout : Layout) (tree : Query) (query : Qre) : Type 0 where
  pub positions : first_node has_many_positions layout.columns query (places_of tree) ≡ None
  pub slots : has_few_slots query ≡ true

-- neither its items nor its values fall into too many cells
pub record IsParted (stream : Stream) (tree : Query) (query : Qre) : Type 0 where
  pub cells : has_few_cells (layout_of stream).columns query ≡ true
  pub derived : first_node derives_many (layout_of stream).columns query (places_of tree) ≡ None

pub record HasPassed (program : Program) (query : Qre) : Type 0 where
  pub right : wrong_name program ≡ None
  pub few : has_few_nodes (unfolded program) ≡ true
  pub found : resolved outside (layout_of program.stream).columns (unfolded program) ≡ Ok query
  pub small : IsLimited (layout_of program.stream) (unfolded program) query
  pub cells : IsParted program.stream (unfolded program) query

-- the limits on positions and slots
limits : (layout : Layout) (tree : Query) (query : Qre)
    → IfOk (limited layout tree query) (λ done. IsLimited layout tree query)
unfolding limited
limits layout tree query =
    after_none (λ done. IsLimited layout tree query) Size
    (first_node has_many_positions layout.columns query (places_of tree)) _ (λ none.
    weaker (provided Size (query_span tree) (has_few_slots query)) (has_few_slots query ≡ true)
    (IsLimited layout tree query)
    (λ slots. record { positions = none; slots = slots })
    (test_passed Size (query_span tree) (has_few_slots query)))

-- and on cells
parts : (stream : Stream) (tree : Query) (query : Qre)
    → IfOk (parted stream tree query) (λ done. IsParted stream tree query)
unfolding parted
parts stream tree query =
    after_test (λ done. IsParted stream tree query) Cells stream.span
    (has_few_cells (layout_of stream).columns query) _ (λ few.
    weaker (because Cells (unless
    (first_node derives_many (layout_of stream).columns query (places_of tree))))
    (first_node derives_many (layout_of stream).columns query (places_of tree) ≡ None)
    (IsParted stream tree query)
    (λ none. record { cells = few; derived = none })
    (none_there Cells (first_node derives_many (layout_of stream).columns query (places_of tree))))

all_passed : (program : Program) → IfOk (measured program) (HasPassed program)
unfolding measured
all_passed program =
    let columns = (layout_of program.stream).columns in
    let tree = unfolded program in
    after_none (HasPassed program) Name (wrong_name program) _ (λ right.
    after_test (HasPassed program) Size (query_span tree) (has_few_nodes tree) _ (λ few.
    after_step (HasPassed program) (resolved outside columns tree) _ (λ query found.
    after_step (HasPassed program) (limited (layout_of program.stream) tree query) _
    (λ done small.
    after_step (HasPassed program) (parted program.stream tree query) _
    (λ also cells. record {
      right = right;
      few = few;
      found = found;
      small = of_step (λ tested. IsLimited (layout_of program.stream) tree query)
          (limited (layout_of program.stream) tree query) done small
          (limits (layout_of program.stream) tree query);
      cells = of_step (λ tested. IsParted program.stream tree query)
          (parted program.stream tree query) also cells (parts program.stream tree query);
    })))))

pub has_passed : (program : Program) (query : Qre) → measured program ≡ Ok query
    → HasPassed program query
has_passed program query is =
    of_step (HasPassed program) (measured program) query is (all_passed program)
