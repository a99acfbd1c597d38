-- The text of a query is that of a program which is resolved to it.
use Rattle.std.proofs.Common.{◌≡◌, ◌≤◌, ◌<◌, ℕ, suc, ◌+◌, ◌^◌, Bool, true, false, List, [], ◌∷◌, map, length, Ok}
use Rattle.std.proofs.Common.{Some, None, refl, sym, ap, ◌∙◌, subst, inl, arith}
use Rattle.std.specs.List.{AllByRecursion, list_all, slice_get}
use Rattle.std.proofs.lemmas.Bool.{and_parts}
use Rattle.std.proofs.lemmas.Bool.Decides.{nat_tests}
use Rattle.item_schema.specs.Layout.{Layout, is_read}
use Rattle.item_schema.specs.declared.column.Column.{Column}
use Rattle.item_schema.specs.declared.column.Kind.{Kind}
use Rattle.item_schema.specs.declared.column.Kind.TheVariants.{Int, Fixed, Text, Number, Table}
use Rattle.language_base.specs.Limits.{max_nodes, max_text}
use Rattle.query_lets.specs.Sizes as trees
use Rattle.query_lets.specs.Unfolded.{unfolded}
use Rattle.query_lets.specs.Words.{names_in, wrong_name}
use Rattle.query_model.specs.Bounds.{nodes_of}
use Rattle.query_model.specs.Queries.{Qre}
use Rattle.query_model.specs.Rules.{IsClear, free}
use Rattle.query_model.specs.Sizes.{HasFewCells, HaveFewCells}
use Rattle.query_compiler.specs.Compiled.{Compiles, judged}
use Rattle.query_parser.specs.Printing.{IsFile, unplaced}
use Rattle.query_parser.specs.Reading.{IsFileOf}
use Rattle.query_parser.proofs.ReadsBack.{reads_back}
use Rattle.query_resolver.specs.Findings.{KeepsTypes}
use Rattle.query_resolver.specs.Layouts.{column_of, has_header, kind_of, layout_of}
use Rattle.query_resolver.specs.Measures.{limited, measured, parted}
use Rattle.query_resolver.specs.Nodes.{places_of}
use Rattle.query_resolver.specs.Resolved.{outside, resolved}
use Rattle.query_resolver.specs.Sizes.{has_few_nodes}
use Rattle.query_resolver.proofs.Measuring.{all_measured, few_cells, few_count, within_limits}
use Rattle.query_syntax.specs.Files.{program_terms}
use Rattle.query_syntax.specs.Programs.{Program, Stream}
use Rattle.query_syntax.specs.Queries.{Query}
use Rattle.query_syntax.specs.declared.stream.Column as syntax
use Rattle.query_syntax.specs.declared.stream.Kind as kinds
use Rattle.query_syntax.specs.declared.stream.Kind.TheVariants as kind
use Rattle.query_syntax.specs.declared.stream.Mode.{Mode}
use Rattle.query_syntax.specs.declared.stream.Mode.TheVariants.{Plain, Header}
use Rattle.query_syntax.proofs.OneProgram.{one_program}
use Rattle.query_syntax.proofs.SomeProgram.{some_program}
use Rattle.query_text.specs.Lets.{Placed, placed}
use Rattle.query_text.specs.Names.{of_columns}
use Rattle.query_text.specs.Programs.{column_tree, kind_tree, mode_tree, text_of}
use Rattle.type_checker.specs.Judged.{BreaksFirst, accepted, sound}
use Rattle.text_reads_back.specs.Reach.{ReachesFew}
use Rattle.text_reads_back.specs.Written.{CanBeWritten, ReadsAs}
use Rattle.text_reads_back.proofs.Bare.{bare_column, bare_kind, bare_mode, bare_program, bare_query}
use Rattle.text_reads_back.proofs.Bare.{bare_stream}
use Rattle.text_reads_back.proofs.BareFiles.{program_bare}
use Rattle.text_reads_back.proofs.BareNames.{names_right, nodes_bare, unfolded_bare}
use Rattle.text_reads_back.proofs.BareResolved.{resolved_at_places}
use Rattle.text_reads_back.proofs.BareTrees.{IsBare, file_is_bare}
use Rattle.text_reads_back.proofs.Bindings.{IsClosed, bindings}
use Rattle.text_reads_back.proofs.FileTerms.{CanStand, file_is, file_of}
use Rattle.text_reads_back.proofs.KeptTypes.{types_kept}
use Rattle.text_reads_back.proofs.LimitsKept.{cells_kept, cells_tested, positions_kept}
use Rattle.text_reads_back.proofs.Names.{AreNames, column_names}
use Rattle.text_reads_back.proofs.PlacedQuery.{query_is_placed}
use Rattle.text_reads_back.proofs.Placing.{named_means}
use Rattle.text_reads_back.proofs.RightWords.{AreClosed, names_are_right}
use Rattle.text_reads_back.proofs.Sharing.{IsPlaced, no_lets}
use Rattle.text_reads_back.proofs.WordRules.{none_broken}
use Rattle.text_reads_back.proofs.Whole.{whole, whole_nodes, whole_resolved}

-- what holds at each place of a list holds of all
each_there : {T : Type 0} (P : T → Type 0) (xs : List T)
    → ((place : ℕ) (x : T) → slice_get xs place ≡ Some x → P x) → AllByRecursion P xs
each_there P [] each = tt
each_there P (x ∷ xs) each =
    (each 0 x refl, each_there P xs (λ place y there. each (suc place) y there))

each_closed : (count : ℕ) (queries : List Query)
    → ((place : ℕ) (query : Query) → slice_get queries place ≡ Some query
    → IsClosed (count + place) (names_in query)) → AreClosed count queries
each_closed count [] each = tt
each_closed count (query ∷ queries) each = (
  subst (λ n. IsClosed n (names_in query)) (add_none count) (each 0 query refl),
  each_closed (count + 1) queries (λ place other there.
      subst (λ n. IsClosed n (names_in other)) (moved count place) (each (suc place) other there)),
)
  where
    add_none : (n : ℕ) → n + 0 ≡ n
    add_none n = omega arith

    moved : (n place : ℕ) → n + suc place ≡ n + 1 + place
    moved n place = omega arith

-- the layout of a stream that has no places
kind_same : (of : kinds.Kind) → kind_of (bare_kind of) ≡ kind_of of
kind_same (kind.Int span) = refl
kind_same (kind.Text span) = refl
kind_same (kind.Fixed digits span) = refl

header_same : (mode : Mode) → has_header (bare_mode mode) ≡ has_header mode
header_same (Plain span) = refl
header_same (Header span) = refl

columns_same : (columns : List syntax.Column)
    → map column_of (map bare_column columns) ≡ map column_of columns
columns_same [] = refl
columns_same (column ∷ columns) =
    let kinds_are = kind_same column.kind in
    let others = columns_same columns in
    λ i. record { name = column.name.bytes; kind = kinds_are i } ∷ others i

layout_bare : (stream : Stream) → layout_of (bare_stream stream) ≡ layout_of stream
layout_bare stream =
    let header = header_same stream.mode in
    let columns = columns_same stream.columns in
    λ i. record { has_header = header i; columns = columns i }

-- columns that are read from lines are those that are written of them
kind_read : (of : Kind) → is_read of ≡ true → kind_of (kind_tree of) ≡ of
kind_read Int is = refl
kind_read (Fixed digits) is = refl
kind_read Text is = refl
kind_read Number is = absurd (cc)
kind_read Table is = absurd (cc)

header_read : (header : Bool) → has_header (mode_tree header) ≡ header
header_read true = refl
header_read false = refl

columns_read : (columns : List Column) → list_all (λ column. is_read column.kind) columns ≡ true
    → map column_of (map column_tree columns) ≡ columns
columns_read [] read = refl
columns_read (column ∷ columns) read =
    let parts = and_parts (is_read column.kind)
    (list_all (λ c. is_read c.kind) columns) read in
    let kind_is = kind_read column.kind parts.0 in
    let others = columns_read columns parts.1 in
    λ i. record { name = column.name; kind = kind_is i } ∷ others i

module _ (layout : Layout) (query : Qre) (can : CanBeWritten layout query) where
  types : KeepsTypes layout.columns query
  types = types_kept free layout.columns query can.clear

  names : AreNames (of_columns layout.columns) layout.columns
  names = column_names layout.columns can.words can.columns.distinct

  abbrev all : Placed
  all = placed (of_columns layout.columns) query []

  is_placed : IsPlaced [] all (whole (of_columns layout.columns) query) (nodes_of query)
  is_placed = query_is_placed layout.columns (of_columns layout.columns) query [] names types
      can.levels can.kept no_lets (omega (arith, can.small.nodes))

  few : length all.queries < 2 ^ 32
  few = omega (arith, is_placed.few, can.small.nodes)

  abbrev file : Program
  file = file_of layout all.queries all.place

  is_file : IsFile (program_terms file)
  is_file = file_is layout all.queries all.place can.words can.columns few
      (each_there CanStand all.queries
      (λ place one there. (is_placed.lets.are place one there).stands))
      (omega (arith, few, is_placed.within))

  bare_file : bare_program file ≡ file
  bare_file = file_is_bare layout all.queries all.place
      (each_there IsBare all.queries (λ place one there. (is_placed.lets.are place one there).bare))

  right : wrong_name file ≡ None
  right = names_are_right layout all.queries all.place can.columns.distinct few
      (each_closed 0 all.queries (λ place one there.
      subst (λ n. IsClosed n (names_in one)) (none_added place)
      (is_placed.lets.are place one there).closed))
      is_placed.within
    where
      none_added : (n : ℕ) → n ≡ 0 + n
      none_added n = omega arith

  unfolds : unfolded file ≡ whole (of_columns layout.columns) query
  unfolds = named_means (bindings all.queries) all.place
      (whole (of_columns layout.columns) query) is_placed.means

  layout_read : layout_of file.stream ≡ layout
  layout_read =
      let header = header_read layout.has_header in
      let columns = columns_read layout.columns can.read in
      λ i. record { has_header = header i; columns = columns i }

  -- a program that is written so, wherever its parts stand
  module _ (program : Program) (same : bare_program program ≡ file) where
    pub layout_is : layout_of program.stream ≡ layout
    layout_is = sym (layout_bare program.stream) ∙ ap (λ (p : Program). layout_of p.stream) same
        ∙ layout_read

    tree : bare_query (unfolded program) ≡ whole (of_columns layout.columns) query
    tree = sym (unfolded_bare program) ∙ ap unfolded same ∙ unfolds

    few_nodes : has_few_nodes (unfolded program) ≡ true
    few_nodes =
        let count : trees.nodes_of (unfolded program) ≡ nodes_of query =
        sym (nodes_bare (unfolded program)) ∙ ap trees.nodes_of tree
        ∙ whole_nodes (of_columns layout.columns) query in
        let most : trees.nodes_of (unfolded program) ≤ max_nodes =
        omega (arith, count, can.small.nodes) in
        grind (arith, nat_tests, most)

    names_of_program : wrong_name program ≡ None
    names_of_program = names_right program (ap wrong_name same ∙ right)

    found : resolved outside (layout_of program.stream).columns (unfolded program) ≡ Ok query
    found = subst (λ (l : Layout). resolved outside l.columns (unfolded program) ≡ Ok query)
        (sym layout_is)
        (resolved_at_places outside layout.columns (unfolded program) query
        (ap (resolved outside layout.columns) tree
        ∙ whole_resolved outside layout.columns (of_columns layout.columns) query names types
        (inl refl)))

    small : limited (layout_of program.stream) (unfolded program) query ≡ Ok tt
    small = within_limits (layout_of program.stream) (unfolded program) query
        (positions_kept (layout_of program.stream).columns free query
        (places_of (unfolded program)) can.small.positions)
        can.small.slots

    cells : parted program.stream (unfolded program) query ≡ Ok tt
    cells =
        subst (λ (l : Layout). HasFewCells l.columns query → HaveFewCells l.columns query
        → parted program.stream (unfolded program) query ≡ Ok tt) layout_is
        (λ some derived. few_cells program.stream (unfolded program) query
        (cells_tested (layout_of program.stream).columns query some)
        (cells_kept (layout_of program.stream).columns free query (places_of (unfolded program))
        derived))
        can.small.cells can.small.derived

    pub measured_is : measured program ≡ Ok query
    measured_is = all_measured program
        (few_count program (record { right = names_of_program; few = few_nodes })) query found small
        cells

  -- the text is that of one
  pub text_reads : length (text_of layout query) ≤ max_text
      → ReadsAs (text_of layout query) layout query
  text_reads short =
      let again = reads_back (program_terms file) is_file short in
      let some = some_program (length (text_of layout query)) again.0 again.1.has.fit in
      let same : bare_program some.0 ≡ file =
      one_program (bare_program some.0) (bare_program file)
      (program_bare some.0 ∙ sym (ap unplaced some.1) ∙ again.2 ∙ sym (program_bare file))
      ∙ bare_file in
      record {
        program = some.0;
        file = subst (IsFileOf (text_of layout query)) some.1 again.1;
        stream = layout_is some.0 same;
        measured = measured_is some.0 same;
      }

  -- and where few states are reached it compiles to the query
  pub text_compiles : ReachesFew free layout.columns query
      → length (text_of layout query) ≤ max_text → Compiles (text_of layout query)
      (accepted (record { layout = layout; query = query }))
  text_compiles few_states short =
      let reads = text_reads short in
      let none : BreaksFirst reads.program query None =
      none_broken free (layout_of reads.program.stream).columns query
      (places_of (unfolded reads.program))
      (subst (λ (l : Layout). IsClear free l.columns query) (sym reads.stream) can.clear)
      (subst (λ (l : Layout). ReachesFew free l.columns query) (sym reads.stream) few_states) in
      subst (λ (l : Layout). Compiles (text_of layout query)
      (accepted (record { layout = l; query = query }))) reads.stream
      (judged reads.program _ reads.file (sound query reads.measured none))
