-- What a text compiles to can be written, and reaches few states.
use Rattle.std.proofs.Common.{◌≡◌, ◌≤◌, ℕ, List, None, Ok, arith}
use Rattle.std.proofs.Common.{length, refl, ap, subst, ◌∙◌}
use Rattle.std.proofs.lemmas.Bool.{leb-true}
use Rattle.item_schema.specs.Layout.{IsLayout, Layout}
use Rattle.item_schema.proofs.Layouts.{is_layout}
use Rattle.language_base.specs.Limits.{max_cells, max_nodes}
use Rattle.predicate_cells.specs.Cells.{count_from}
use Rattle.query_compiler.specs.Compiled.{Compiles, judged, unread}
use Rattle.query_lets.specs.Sizes as trees
use Rattle.query_lets.specs.Unfolded.{unfolded}
use Rattle.query_model.specs.Bounds.{nodes_of, slots_of}
use Rattle.query_model.specs.Monitors.{Monitor}
use Rattle.query_model.specs.Queries.{Qre}
use Rattle.query_model.specs.Rules.{free}
use Rattle.query_model.specs.Sizes.{HasFewCells, IsSmall, max_slots, predicates_of}
use Rattle.query_parser.specs.Reading.{IsFileOf}
use Rattle.query_parser.specs.TreeReading.{AreShallow}
use Rattle.query_parser.proofs.IsFile.{is_file}
use Rattle.query_parser.proofs.Passes.{shallow_readable}
use Rattle.query_resolver.specs.Layouts.{layout_of}
use Rattle.query_resolver.specs.Measures.{measured}
use Rattle.query_resolver.specs.Nodes.{places_of}
use Rattle.query_resolver.specs.Resolved.{outside, resolved}
use Rattle.query_resolver.proofs.Measuring.{columns_read, columns_right}
use Rattle.query_resolver.proofs.Parted.{few_values}
use Rattle.query_resolver.proofs.Repeats.{are_columns_of}
use Rattle.query_syntax.specs.Files.{program_terms}
use Rattle.query_syntax.specs.Programs.{Program}
use Rattle.query_syntax.proofs.WithinLimits.{stream_within}
use Rattle.text_reads_back.specs.Reach.{ReachesFew}
use Rattle.text_reads_back.specs.Written.{CanBeWritten}
use Rattle.text_reads_back.proofs.Ranges.{bytes_of}
use Rattle.type_checker.specs.Judged.{BreaksFirst, IsJudged, Verdict, accepted, ambiguous, sound}
use Rattle.type_checker.specs.Judged.{unmeasured}
use Rattle.type_checker.proofs.Clear.{clear_from}
use Rattle.value_ops.specs.Texts.{IsText}
use Rattle.rewritten_texts.proofs.FewPositions.{few_positions}
use Rattle.rewritten_texts.proofs.Passed.{HasPassed, has_passed}
use Rattle.rewritten_texts.proofs.ReachFound.{reach_found}
use Rattle.rewritten_texts.proofs.ResolvedParts.{IsResolved, resolved_parts}
use Rattle.rewritten_texts.proofs.SaidFiles.{IsSaidFile, file_said}
use Rattle.rewritten_texts.proofs.Steps.{of_step}
use Rattle.rewritten_texts.proofs.UnfoldedParts.{unfolded_parts}

-- the program that a text writes, and its query, which breaks no rule
pub record IsCompiled (text : List ℕ) (layout : Layout) (query : Qre) : Type 0 where
  pub program : Program
  pub file : IsFileOf text (program_terms program)
  pub measured : measured program ≡ Ok query
  pub unbroken : BreaksFirst program query None
  pub layout_is : layout_of program.stream ≡ layout

judged_so : (text : List ℕ) (program : Program) (verdict : Verdict) (layout : Layout) (query : Qre)
    → IsFileOf text (program_terms program) → IsJudged program verdict
    → verdict ≡ accepted (record { layout = layout; query = query })
    → IsCompiled text layout query
judged_so text program _ layout query file (sound other is none) same =
    let one : Monitor = record { layout = layout_of program.stream; query = other } in
    let made : one ≡ record { layout = layout; query = query } = cc in
    let of_query : other ≡ query = ap (λ (m : Monitor). m.query) made in record {
      program = program;
      file = file;
      measured = is ∙ ap Ok of_query;
      unbroken = subst (λ (x : Qre). BreaksFirst program x None) of_query none;
      layout_is = ap (λ (m : Monitor). m.layout) made;
    }
judged_so text program _ layout query file (unmeasured why is) same = absurd (cc)
judged_so text program _ layout query file (ambiguous other why is breaks) same = absurd (cc)

compiled_so : (text : List ℕ) (verdict : Verdict) (layout : Layout) (query : Qre)
    → Compiles text verdict → verdict ≡ accepted (record { layout = layout; query = query })
    → IsCompiled text layout query
compiled_so text _ layout query (judged program verdict file is) same =
    judged_so text program verdict layout query file is same
compiled_so text _ layout query (unread why refuses) same = absurd (cc)

pub is_compiled : (text : List ℕ) (layout : Layout) (query : Qre)
    → Compiles text (accepted (record { layout = layout; query = query }))
    → IsCompiled text layout query
is_compiled text layout query compiles = compiled_so text _ layout query compiles refl

module _ (text : List ℕ) (query : Qre) (program : Program)
    (file : IsFileOf text (program_terms program)) (is : measured program ≡ Ok query)
    (none : BreaksFirst program query None) where
  abbrev layout : Layout
  layout = layout_of program.stream

  few_states : ReachesFew free layout.columns query
  few_states = reach_found free layout.columns query (places_of (unfolded program)) none

  module _ (bytes : IsText text) where
    passed : HasPassed program query
    passed = has_passed program query is

    said : IsSaidFile program
    said =
        let has = file.has.has in
        let shallow : AreShallow text has.trees =
        record { has = has.has; not_deep = has.not_deep } in
        file_said program (is_file text has.trees (program_terms program) (bytes_of text bytes)
        (shallow_readable text has.trees shallow)
        (record { say = has.say; fit = file.has.fit; within = file.within }))

    of_parts : IsResolved layout.columns (unfolded program) query
    of_parts = of_step (IsResolved layout.columns (unfolded program))
        (resolved outside layout.columns (unfolded program)) query passed.found
        (resolved_parts outside layout.columns (unfolded program)
        (unfolded_parts program said.body.of_lets said.body.of_main))

    columns : IsLayout layout.columns
    columns = is_layout layout.columns (are_columns_of program.stream
        (stream_within (length text) program file.has.fit) (columns_right program passed.right))

    few_nodes : nodes_of query ≤ max_nodes
    few_nodes =
        let count = leb-true (trees.nodes_of (unfolded program)) max_nodes passed.few in
        let same = of_parts.nodes in omega (arith, count, same)

    few_slots : slots_of query ≤ max_slots
    few_slots = leb-true (slots_of query) max_slots passed.small.slots

    few_cells : HasFewCells layout.columns query
    few_cells =
        leb-true (count_from 0 layout.columns (predicates_of query)) max_cells passed.cells.cells

    small : IsSmall layout.columns query
    small = record {
      nodes = few_nodes;
      positions = few_positions layout.columns free query (places_of (unfolded program))
          passed.small.positions;
      slots = few_slots;
      cells = few_cells;
      derived = few_values layout.columns free query (places_of (unfolded program))
          passed.cells.derived;
    }

    can_be : CanBeWritten layout query
    can_be = record {
      columns = columns;
      read = columns_read program.stream.columns;
      clear = clear_from layout.columns free query (places_of (unfolded program)) of_parts.types
          none;
      small = small;
      words = said.words;
      levels = of_parts.levels;
      kept = of_parts.memory;
    }

pub can_be_written : (text : List ℕ) (layout : Layout) (query : Qre) → IsText text
    → Compiles text (accepted (record { layout = layout; query = query }))
    → CanBeWritten layout query
can_be_written text layout query bytes compiles =
    let made = is_compiled text layout query compiles in
    subst (λ l. CanBeWritten l query) made.layout_is
    (can_be text query made.program made.file made.measured made.unbroken bytes)

pub reaches_few : (text : List ℕ) (layout : Layout) (query : Qre)
    → Compiles text (accepted (record { layout = layout; query = query }))
    → ReachesFew free layout.columns query
reaches_few text layout query compiles =
    let made = is_compiled text layout query compiles in
    subst (λ (l : Layout). ReachesFew free l.columns query) made.layout_is
    (few_states text query made.program made.file made.measured made.unbroken)
