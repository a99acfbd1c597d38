-- What the passes before the rules of words make of a program, from what each of them finds.
use Rattle.std.proofs.Common.{◌≡◌, ◌≤◌, ◌<◌, Bool, true, false, cond, List, [], ◌∷◌, ◌++◌, map}
use Rattle.std.proofs.Common.{Option, None, Some, Result, Ok, Err, refl, sym, ap, subst, ◌∙◌}
use Rattle.std.proofs.Common.{⊎_elim, arith}
use Rattle.std.proofs.lemmas.Bool.Decides.{nat_tests}
use Rattle.std.specs.List.{Contains, list_all}
use Rattle.language_base.specs.Limits.{max_nodes}
use Rattle.language_base.specs.declared.refusal.Refusal.{Refusal}
use Rattle.language_base.specs.declared.rule.Rule.{Rule}
use Rattle.language_base.specs.declared.rule.Rule.TheVariants.{Cells, Name, Size}
use Rattle.language_base.specs.declared.span.Span.{Span}
use Rattle.item_schema.specs.Layout.{Layout, is_read}
use Rattle.item_schema.specs.declared.column.Column as schema
use Rattle.predicates.specs.Predicates.{Predicate}
use Rattle.query_lets.specs.Sizes as trees
use Rattle.query_lets.specs.Unfolded.{unfolded}
use Rattle.query_lets.specs.Words.{Word, column_words, first_wrong, is_wrong, let_words, word_span}
use Rattle.query_lets.specs.Words.{wrong_name}
use Rattle.query_model.specs.Bounds.{nodes_of, slots_of}
use Rattle.query_model.specs.Queries.{Qre, plain_of}
use Rattle.query_model.specs.Rules.{free}
use Rattle.query_model.specs.Sizes.{HaveFewCells, max_slots, predicates_of}
use Rattle.query_model.specs.declared.query.Query as memory
use Rattle.query_syntax.specs.Programs.{Program, Stream}
use Rattle.query_syntax.specs.Queries.{Query}
use Rattle.query_syntax.specs.Spans.{query_span}
use Rattle.query_syntax.specs.declared.stream.Column.{Column}
use Rattle.query_syntax.specs.declared.stream.Kind.{Kind}
use Rattle.query_syntax.specs.declared.stream.Kind.TheVariants.{Int, Text, Fixed}
use Rattle.query_resolver.specs.Findings.{IsUnresolved, KeepsTypes, derives_many, first_in}
use Rattle.query_resolver.specs.Findings.{places_in}
use Rattle.query_resolver.specs.Measures.{limited, measured, parted}
use Rattle.query_resolver.specs.Layouts.{column_of, kind_of, layout_of}
use Rattle.query_resolver.specs.Nodes.{Places, first_where, nodes_in, places_of}
use Rattle.query_resolver.specs.Passes.{IsBeyond, IsCounted, IsLimited, IsMeasured, IsNamed}
use Rattle.query_resolver.specs.Passes.{counted}
use Rattle.query_resolver.specs.Passes.{distinguished, values_apart}
use Rattle.query_resolver.specs.Resolved.{outside, resolved}
use Rattle.query_model.specs.Few.{has_few_cells}
use Rattle.query_resolver.specs.Sizes.{derives_many_cells, first_node, has_few_nodes, has_few_slots}
use Rattle.query_resolver.specs.Sizes.{has_many_positions}
use Rattle.query_resolver.specs.Steps.{◌>>=◌, because, provided, refusal, unless}
use Rattle.query_resolver.specs.declared.measurement.Measured.{Measured}
use Rattle.query_resolver.specs.declared.stop.CheckStop.{CheckStop}
use Rattle.query_resolver.specs.declared.stop.CheckStop.TheVariants.{Refused, Memory}
use Rattle.query_resolver.proofs.Parted.{few_values}
use Rattle.query_resolver.proofs.Counted.{count_made, count_of, count_written}

-- a step with a value
continues : {A B E : Type 0} (first : Result A E) (next : A → Result B E) (value : A)
    → first ≡ Ok value → (first >>= next) ≡ next value
continues first next value is = rw is refl

-- a step that stops
stops : {A B E : Type 0} (first : Result A E) (next : A → Result B E) (why : E) → first ≡ Err why
    → (first >>= next) ≡ Err why
stops first next why is = rw is refl

-- what refuses in one pass refuses in all of them
pub unresolved_as : {A B : Type 0} (found : Result A Refusal) (made : Result B Refusal)
    → ((why : Refusal) → found ≡ Err why → made ≡ Err why) → (stop : CheckStop)
    → IsUnresolved found stop → IsUnresolved made stop
unresolved_as found made each (Refused why) is = each why is
unresolved_as found made each Memory is = tt

-- nothing was found where nothing stops
none_found : (rule : Rule) (found : Option Span)
    → because rule (unless found) ≡ Ok tt → found ≡ None
none_found rule None is = refl
none_found rule (Some span) is = absurd (cc)

-- a test that was passed
passed : (rule : Rule) (span : Span) (test : Bool) → provided rule span test ≡ Ok tt → test ≡ true
passed rule span true is = refl
passed rule span false is = cc

-- two steps before a third
regrouped : {A B C E : Type 0} (first : Result A E) (next : A → Result B E) (last : B → Result C E)
    → ((first >>= next) >>= last) ≡ (first >>= (λ value. next value >>= last))
regrouped (Ok value) next last = refl
regrouped (Err why) next last = refl

module _ (layout : Layout) (tree : Query) (query : Qre) where
  -- the node that has too many positions
  pub many_positions : (span : Span)
      → first_node has_many_positions layout.columns query (places_of tree) ≡ Some span
      → limited layout tree query ≡ Err (refusal Size span)
  unfolding limited
  many_positions span is = rw is refl

  -- no such node, but much that is kept
  pub many_slots : first_node has_many_positions layout.columns query (places_of tree) ≡ None
      → max_slots < slots_of query
      → limited layout tree query ≡ Err (refusal Size (query_span tree))
  unfolding limited
  many_slots none many =
      let much : has_few_slots query ≡ false = grind (arith, nat_tests, many) in
      rw (none, much) refl

  -- no such node, and little that is kept
  pub within_limits : first_node has_many_positions layout.columns query (places_of tree) ≡ None
      → slots_of query ≤ max_slots → limited layout tree query ≡ Ok tt
  unfolding limited
  within_limits none few =
      let few_slots : has_few_slots query ≡ true = grind (arith, nat_tests, few) in
      rw (none, few_slots) refl

module _ (stream : Stream) (tree : Query) (query : Qre) where
  -- few cells, and none of the values inside
  pub few_cells : has_few_cells (layout_of stream).columns query ≡ true
      → first_node (λ node. derives_many_cells node.columns node.query)
      (layout_of stream).columns query (places_of tree) ≡ None → parted stream tree query ≡ Ok tt
  unfolding parted
  few_cells few none = rw (few, none) refl

  -- few cells, and too many of the values inside
  pub many_values : (why : Refusal) → has_few_cells (layout_of stream).columns query ≡ true
      → because Cells (unless (first_node (λ node. derives_many_cells node.columns node.query)
      (layout_of stream).columns query (places_of tree))) ≡ Err why
      → parted stream tree query ≡ Err why
  unfolding parted
  many_values why few is = rw few is

  -- too many
  pub many_cells : (why : Refusal)
      → distinguished (layout_of stream).columns stream.span query ≡ Err why
      → parted stream tree query ≡ Err why
  unfolding parted
  many_cells why is = stops (distinguished (layout_of stream).columns stream.span query) _ why is

module _ (program : Program) where
  -- a wrong name of a column or of a let
  pub wrong_count : (span : Span) → wrong_name program ≡ Some span
      → counted program ≡ Err (refusal Name span)
  wrong_count span is = rw is refl

  -- right names, and few nodes
  pub few_count : IsCounted program → counted program ≡ Ok tt
  few_count is = rw (is.right, is.few) refl

  -- what is left after the names and the types
  abbrev sized : Qre → Result Qre Refusal
  sized query = limited (layout_of program.stream) (unfolded program) query
      >>= (λ small. parted program.stream (unfolded program) query >>= (λ cells. Ok query))

  -- and after the names of lets and the nodes
  abbrev named : Result Qre Refusal
  named = resolved outside (layout_of program.stream).columns (unfolded program) >>= sized

  measured_as : measured program ≡ (counted program >>= (λ few. named))
  unfolding measured
  measured_as = sym (regrouped (because Name (unless (wrong_name program)))
      (λ right. provided Size (query_span (unfolded program)) (has_few_nodes (unfolded program)))
      (λ few. named))

  -- wrong names or too many nodes
  pub count_stop : (why : Refusal) → counted program ≡ Err why → measured program ≡ Err why
  count_stop why is = measured_as ∙ stops (counted program) (λ few. named) why is

  module _ (counts : counted program ≡ Ok tt) where
    count_goes : measured program ≡ named
    count_goes = measured_as ∙ continues (counted program) (λ few. named) tt counts

    -- names and types
    pub names_stop : (why : Refusal)
        → resolved outside (layout_of program.stream).columns (unfolded program) ≡ Err why
        → measured program ≡ Err why
    names_stop why is =
        count_goes ∙ stops (resolved outside (layout_of program.stream).columns (unfolded program))
        sized why is

    module _ (query : Qre)
        (is : resolved outside (layout_of program.stream).columns (unfolded program)
        ≡ Ok query) where
      named_goes : measured program ≡ sized query
      named_goes = count_goes
          ∙ continues (resolved outside (layout_of program.stream).columns (unfolded program)) sized
          query is

      -- too many positions
      pub limits_stop : (why : Refusal)
          → limited (layout_of program.stream) (unfolded program) query ≡ Err why
          → measured program ≡ Err why
      limits_stop why is =
          named_goes ∙ stops (limited (layout_of program.stream) (unfolded program) query) _ why is

      module _ (small : limited (layout_of program.stream) (unfolded program) query ≡ Ok tt) where
        small_goes : measured program
            ≡ (parted program.stream (unfolded program) query >>= (λ cells. Ok query))
        small_goes = named_goes
            ∙ continues (limited (layout_of program.stream) (unfolded program) query) _ tt small

        -- too many cells
        pub cells_stop : (why : Refusal) → parted program.stream (unfolded program) query ≡ Err why
            → measured program ≡ Err why
        cells_stop why is =
            small_goes ∙ stops (parted program.stream (unfolded program) query) _ why is

        -- nothing is refused
        pub all_measured : parted program.stream (unfolded program) query ≡ Ok tt
            → measured program ≡ Ok query
        all_measured is =
            small_goes ∙ continues (parted program.stream (unfolded program) query) _ tt is

-- the columns of a stream are read from lines
pub columns_read : (columns : List Column)
    → list_all (λ column. is_read column.kind) (map column_of columns) ≡ true
columns_read [] = refl
columns_read (column ∷ columns) = rw (read_kind column.kind) (columns_read columns)
  where
    read_kind : (kind : Kind) → is_read (kind_of kind) ≡ true
    read_kind (Int span) = refl
    read_kind (Text span) = refl
    read_kind (Fixed digits span) = refl

-- the columns of a program with right names have names of their own
pub columns_right : (program : Program) → wrong_name program ≡ None
    → first_wrong (column_words [] program.stream.columns) ≡ None
columns_right program right =
    first_right (column_words [] program.stream.columns)
    (let_words [] program.lets program.main.query) right
  where
    first_right : (words others : List Word) → first_wrong (words ++ others) ≡ None
        → first_wrong words ≡ None
    first_right [] others none = refl
    first_right (word ∷ words) others none =
        by (is_wrong word) (word_span word) (first_wrong (words ++ others)) (first_wrong words)
        (first_right words others) none
      where
        by : (wrong : Bool) (span : Span) (all front : Option Span) → ((all ≡ None) → front ≡ None)
            → cond wrong (Some span) all ≡ None → cond wrong (Some span) front ≡ None
        by true span all front rest none = absurd (cc)
        by false span all front rest none = rest none

-- what each pass refuses is refused
pub count_refused : (program : Program) (stop : CheckStop) → IsUnresolved (counted program) stop
    → IsUnresolved (measured program) stop
count_refused program = unresolved_as (counted program) (measured program) (count_stop program)

module _ (program : Program) (count : IsCounted program) (schema : Layout)
    (same : schema ≡ layout_of program.stream) where
  counts : counted program ≡ Ok tt
  counts = few_count program count

  pub names_refused : (stop : CheckStop)
      → IsUnresolved (resolved outside schema.columns (unfolded program)) stop
      → IsUnresolved (measured program) stop
  names_refused =
      unresolved_as (resolved outside schema.columns (unfolded program)) (measured program)
      (λ (why : Refusal). λ is. names_stop program counts why
      (subst (λ (layout : Layout). resolved outside layout.columns (unfolded program) ≡ Err why)
      same is))

  module _ (query : memory.Query) (named : IsNamed schema.columns (unfolded program) query) where
    over : resolved outside (layout_of program.stream).columns (unfolded program)
        ≡ Ok (plain_of query.shape)
    over = subst (λ (layout : Layout). resolved outside layout.columns (unfolded program)
        ≡ Ok (plain_of query.shape))
        same named.named

    pub limits_refused : (stop : CheckStop)
        → ((layout : Layout) (t : Query) → places_of t ≡ places_in query
        → IsUnresolved (limited layout t (plain_of query.shape)) stop)
        → IsUnresolved (measured program) stop
    limits_refused stop refuses =
        unresolved_as (limited (layout_of program.stream) (unfolded program) (plain_of query.shape))
        (measured program) (limits_stop program counts (plain_of query.shape) over) stop
        (refuses (layout_of program.stream) (unfolded program) (sym named.places))

    module _ (limits : IsLimited query) where
      small : limited (layout_of program.stream) (unfolded program) (plain_of query.shape) ≡ Ok tt
      small = limits.limited (layout_of program.stream) (unfolded program) (sym named.places)

      pub cells_refused : (stop : CheckStop)
          → IsUnresolved (distinguished schema.columns program.stream.span (plain_of query.shape))
          stop → IsUnresolved (measured program) stop
      cells_refused =
          unresolved_as (distinguished schema.columns program.stream.span (plain_of query.shape))
          (measured program) (λ (why : Refusal). λ is.
          cells_stop program counts (plain_of query.shape) over small why
          (many_cells program.stream (unfolded program) (plain_of query.shape) why
          (subst (λ (layout : Layout).
          distinguished layout.columns program.stream.span (plain_of query.shape) ≡ Err why)
          same is)))

      module _ (few : distinguished schema.columns program.stream.span (plain_of query.shape)
          ≡ Ok tt) where
        few_there : has_few_cells (layout_of program.stream).columns (plain_of query.shape) ≡ true
        few_there = passed Cells program.stream.span
            (has_few_cells (layout_of program.stream).columns (plain_of query.shape))
            (subst (λ (layout : Layout).
            distinguished layout.columns program.stream.span (plain_of query.shape)
            ≡ Ok tt) same few)

        pub values_refused : (stop : CheckStop)
            → IsUnresolved (values_apart schema.columns query) stop
            → IsUnresolved (measured program) stop
        values_refused = unresolved_as (values_apart schema.columns query) (measured program)
            (λ (why : Refusal).
            λ is. cells_stop program counts (plain_of query.shape) over small why
            (many_values program.stream (unfolded program) (plain_of query.shape) why few_there
            (subst (λ (places : Places). because Cells (unless (first_where derives_many
            (nodes_in (layout_of program.stream).columns free (plain_of query.shape) places)))
            ≡ Err why) named.places
            (subst (λ (layout : Layout). values_apart layout.columns query ≡ Err why) same is))))

    -- what is beyond the limits is refused
    pub beyond_refused : (stop : CheckStop) → IsBeyond schema.columns program.stream.span query stop
        → IsUnresolved (measured program) stop
    beyond_refused stop = ⊎_elim (limits_refused stop)
        (λ (limits, cells). ⊎_elim (cells_refused limits stop)
        (λ (few, values). values_refused limits few stop values) cells)

-- the nodes of a query are those of the tree that it was made of
few_nodes : (program : Program) (query : memory.Query)
    → places_in query ≡ places_of (unfolded program) → has_few_nodes (unfolded program) ≡ true
    → nodes_of (plain_of query.shape) ≤ max_nodes
few_nodes program query there few =
    let nodes = count_made query.shape query.span in
    let same : count_of (places_in query) ≡ count_of (places_of (unfolded program)) =
    ap count_of there in
    let whole = count_written (unfolded program) in
    let little : trees.nodes_of (unfolded program) ≤ max_nodes =
    grind (arith, nat_tests, few) in omega arith

-- all that the passes found
pub measured_by : (program : Program) (made : Measured) → IsCounted program
    → made.schema ≡ layout_of program.stream
    → IsNamed made.schema.columns (unfolded program) made.query.value
    → IsLimited made.query.value → made.cells.layout ≡ made.schema
    → distinguished made.schema.columns program.stream.span (plain_of made.query.value.shape)
    ≡ Ok tt
    → ((pred : Predicate) → Contains (predicates_of (plain_of made.query.value.shape)) pred
    → Contains made.cells.preds pred)
    → values_apart made.schema.columns made.query.value ≡ Ok tt → IsMeasured program made
measured_by program made count layout named limits cells few members values =
    let query : Qre = plain_of made.query.value.shape in
    let columns : List schema.Column = (layout_of program.stream).columns in
    let same : made.schema.columns ≡ columns = ap (λ (l : Layout). l.columns) layout in
    let over : resolved outside columns (unfolded program) ≡ Ok query =
    subst (λ (c : List schema.Column). resolved outside c (unfolded program) ≡ Ok query)
    same named.named in
    let there : places_in made.query.value ≡ places_of (unfolded program) = named.places in
    let nodes : nodes_of query ≤ max_nodes = few_nodes program made.query.value there count.few in
    let little : has_few_cells columns query ≡ true =
    passed Cells program.stream.span (has_few_cells columns query)
    (subst (λ (c : List schema.Column). distinguished c program.stream.span query ≡ Ok tt) same
    few) in
    let none : first_where derives_many (nodes_in columns free query (places_of (unfolded program)))
    ≡ None =
    subst
    (λ (places : Places). first_where derives_many (nodes_in columns free query places) ≡ None)
    there (none_found Cells (first_in derives_many columns free made.query.value)
    (subst (λ (c : List schema.Column). values_apart c made.query.value ≡ Ok tt) same values)) in
    let derived : HaveFewCells columns query =
    few_values columns free query (places_of (unfolded program)) none in record {
      layout = layout;
      cells = cells ∙ layout;
      measured = all_measured program (few_count program count) query over
          (limits.limited (layout_of program.stream) (unfolded program) (sym there))
          (few_cells program.stream (unfolded program) query little none);
      types = subst (λ (c : List schema.Column). KeepsTypes c query) same named.types;
      places = there;
      small = record {
        nodes = nodes;
        positions = limits.positions;
        slots = limits.slots;
        cells = grind (arith, nat_tests, little);
        derived = derived;
      };
      asked = record {
        types = subst (λ (l : Layout). KeepsTypes l.columns query) (sym cells) named.types;
        few = limits.positions;
        derived =
            subst (λ (l : Layout). HaveFewCells l.columns query) (sym (cells ∙ layout)) derived;
        members = members;
      };
    }
