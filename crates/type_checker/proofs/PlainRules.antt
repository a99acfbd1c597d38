-- Where no word has two readings, nothing is refused for one: by the passes before the rules of
-- words, and by the rules of words of queries that ask nothing of readings.
use Rattle.std.proofs.Common.{◌≡◌, ◌&&◌, Bool, true, false, List, Option, None, Some, Result, Ok}
use Rattle.std.proofs.Common.{Err, IfErr}
use Rattle.std.specs.List.{list_all}
use Rattle.language_base.specs.declared.refusal.Refusal.{Refusal}
use Rattle.language_base.specs.declared.rule.Rule.{Rule}
use Rattle.language_base.specs.declared.rule.Rule.TheVariants.{Cells, Compose, Empty, Name, Nested}
use Rattle.language_base.specs.declared.rule.Rule.TheVariants.{Rates, Reach, Size, Mismatch}
use Rattle.language_base.specs.declared.span.Span.{Span}
use Rattle.item_schema.specs.Layout.{Layout}
use Rattle.item_schema.specs.declared.column.Column.{Column}
use Rattle.predicates.specs.Fits.{fits}
use Rattle.predicates.specs.Predicates.{Predicate}
use Rattle.query_lets.specs.Unfolded.{unfolded}
use Rattle.query_lets.specs.Words.{wrong_name}
use Rattle.query_model.specs.Few.{has_few_cells}
use Rattle.query_model.specs.Queries.{Qre, atom, eps, choice, split, iter, combine, apply, compose}
use Rattle.query_model.specs.Queries.{collect}
use Rattle.query_model.specs.QueryTypes as types
use Rattle.query_model.specs.QueryTypes.{derived_columns, type_of}
use Rattle.query_model.specs.Rates.{rate_of}
use Rattle.query_model.specs.Rules.{Standing, bound, free}
use Rattle.query_syntax.specs.Programs.{Program, Stream}
use Rattle.query_syntax.specs.Keys.{names_of}
use Rattle.query_syntax.specs.Queries as q
use Rattle.query_syntax.specs.Queries.{Query}
use Rattle.query_syntax.specs.Spans.{query_span}
use Rattle.rate_expr.specs.Rates.{Regex, preds_of}
use Rattle.value_ops.specs.declared.value.ValueType.TheVariants.{Number}
use Rattle.type_checker.specs.Blames.{ForbidsTwoReadings, question_of}
use Rattle.query_resolver.specs.Expressions.{expression_over, is_number, is_typed, of_item, of_one}
use Rattle.query_resolver.specs.Expressions.{of_two}
use Rattle.query_resolver.specs.Measures.{limited, measured, parted}
use Rattle.query_resolver.specs.Layouts.{layout_of}
use Rattle.query_resolver.specs.Names.{key_named}
use Rattle.query_resolver.specs.Nodes.{places_of}
use Rattle.query_resolver.specs.Rates.{rate_over}
use Rattle.query_resolver.specs.Resolved.{Nesting, have_texts, inside, may_collect, outside}
use Rattle.query_resolver.specs.Resolved.{resolved, same_type}
use Rattle.query_resolver.specs.Sizes.{derives_many_cells, first_node, has_few_nodes, has_few_slots}
use Rattle.query_resolver.specs.Sizes.{has_many_positions}
use Rattle.query_resolver.specs.Steps.{◌>>=◌, because, found, provided, unless}
use Rattle.query_resolver.specs.Tests.{resolved_over}
use Rattle.type_checker.specs.WordRules.{BreaksAt, BreaksEqual, BreaksFed, BreaksMet}

-- the rule forbids no word with two readings
abbrev pub IsPlain : Rule → Type 0
IsPlain rule = ForbidsTwoReadings rule → ⊥

-- a step that refuses by such rules alone
abbrev pub StopsPlainly : {A : Type 0} → Result A Refusal → Type 0
StopsPlainly made = IfErr made (λ why. IsPlain why.rule)

after : {A B : Type 0} (first : Result A Refusal) (next : A → Result B Refusal) → StopsPlainly first
    → ((value : A) → StopsPlainly (next value)) → StopsPlainly (first >>= next)
after (Ok value) next plain each = each value
after (Err why) next plain each = plain

-- after a place that is looked for, a test, and a name
after_place : {A B : Type 0} (rule : Rule) → IsPlain rule
    → (made : Result A Span) (next : A → Result B Refusal)
    → ((value : A) → StopsPlainly (next value)) → StopsPlainly (because rule made >>= next)
after_place rule plain (Ok value) next each = each value
after_place rule plain (Err span) next each = plain

after_test : {B : Type 0} (rule : Rule) → IsPlain rule → (span : Span) (passes : Bool)
    (next : Unit {0} → Result B Refusal) → ((done : Unit {0}) → StopsPlainly (next done))
    → StopsPlainly (provided rule span passes >>= next)
after_test rule plain span true next each = each tt
after_test rule plain span false next each = plain

after_name : {A B : Type 0} (span : Span) (one : Option A) (next : A → Result B Refusal)
    → ((value : A) → StopsPlainly (next value)) → StopsPlainly (found Name span one >>= next)
after_name span (Some value) next each = each value
after_name span None next each = λ forbids. forbids

after_type : {B : Type 0} (span : Span) (passes : Bool) (next : Unit {0} → Result B Refusal)
    → ((done : Unit {0}) → StopsPlainly (next done))
    → StopsPlainly (provided Mismatch span passes >>= next)
after_type span passes next each = after_test Mismatch (λ forbids. forbids) span passes next each

-- names and types
resolved_plain : (nesting : Nesting) (columns : List Column) (tree : Query)
    → StopsPlainly (resolved nesting columns tree)
unfolding resolved
resolved_plain nesting columns (q.name name) = λ forbids. forbids
resolved_plain nesting columns (q.atom predicate value span) =
    after_name span (resolved_over columns predicate) _ (λ pred.
    after_name span (expression_over (of_item columns) value) _ (λ expression.
    after_type span (fits columns pred) _ (λ tests.
    after_type span (is_typed (types.of_columns columns) expression) _ (λ typed. tt))))
resolved_plain nesting columns (q.eps number span) = tt
resolved_plain nesting columns (q.or left right span) =
    after (resolved nesting columns left) _ (resolved_plain nesting columns left) (λ f.
    after (resolved nesting columns right) _ (resolved_plain nesting columns right) (λ g.
    after_type span (same_type (type_of columns g) (type_of columns f)) _ (λ typed. tt)))
resolved_plain nesting columns (q.split left right value span) =
    after (resolved nesting columns left) _ (resolved_plain nesting columns left) (λ f.
    after (resolved nesting columns right) _ (resolved_plain nesting columns right) (λ g.
    after_name span (expression_over of_two value) _ (λ expression.
    after_type span (is_typed (types.of_two (type_of columns f) (type_of columns g)) expression) _
    (λ typed. tt))))
resolved_plain nesting columns (q.iter operand first step span) =
    after (resolved nesting columns operand) _ (resolved_plain nesting columns operand) (λ f.
    after_name span (expression_over of_two step) _ (λ expression.
    after_type span (is_number (types.of_two Number (type_of columns f)) expression)
    _ (λ typed. tt)))
resolved_plain nesting columns (q.combine left right value span) =
    after (resolved nesting columns left) _ (resolved_plain nesting columns left) (λ f.
    after (resolved nesting columns right) _ (resolved_plain nesting columns right) (λ g.
    after_name span (expression_over of_two value) _ (λ expression.
    after_type span (is_typed (types.of_two (type_of columns f) (type_of columns g)) expression) _
    (λ typed. tt))))
resolved_plain nesting columns (q.apply operand value span) =
    after (resolved nesting columns operand) _ (resolved_plain nesting columns operand) (λ f.
    after_name span (expression_over of_one value) _ (λ expression.
    after_type span (is_typed (types.of_one (type_of columns f)) expression) _ (λ typed. tt)))
resolved_plain nesting columns (q.compose left right span) =
    after (resolved nesting columns left) _ (resolved_plain nesting columns left) (λ f.
    after (resolved inside (derived_columns (type_of columns f)) right) _
    (resolved_plain inside (derived_columns (type_of columns f)) right) (λ g. tt))
resolved_plain nesting columns (q.collect key sync rate operand span) =
    after (resolved inside columns operand) _ (resolved_plain inside columns operand) (λ f.
    after_name span (key_named columns (names_of key)) _ (λ chosen.
    after_name span (resolved_over columns sync) _ (λ pred.
    after_name span (rate_over columns rate) _ (λ words.
    after_test Nested (λ forbids. forbids) span (may_collect nesting) _ (λ nested.
    after_type span (same_type (type_of columns f) Number
    && (have_texts columns chosen
    && (fits columns pred && list_all (fits columns) (preds_of words)))) _
    (λ typed. tt))))))

-- positions and slots, and cells
tested : (rule : Rule) → IsPlain rule → (span : Span) (passes : Bool)
    → StopsPlainly (provided rule span passes)
tested rule plain span true = tt
tested rule plain span false = plain

placed : {A : Type 0} (rule : Rule) → IsPlain rule → (made : Result A Span)
    → StopsPlainly (because rule made)
placed rule plain (Ok value) = tt
placed rule plain (Err span) = plain

limited_plain : (layout : Layout) (tree : Query) (query : Qre)
    → StopsPlainly (limited layout tree query)
unfolding limited
limited_plain layout tree query =
    after_place Size (λ forbids. forbids)
    (unless (first_node has_many_positions layout.columns query (places_of tree))) _ (λ positions.
    tested Size (λ forbids. forbids) (query_span tree) (has_few_slots query))

parted_plain : (stream : Stream) (tree : Query) (query : Qre)
    → StopsPlainly (parted stream tree query)
unfolding parted
parted_plain stream tree query =
    after_test Cells (λ forbids. forbids) stream.span
    (has_few_cells (layout_of stream).columns query) _ (λ cells.
    placed Cells (λ forbids. forbids)
    (unless (first_node (λ node. derives_many_cells node.columns node.query)
    (layout_of stream).columns query (places_of tree))))

-- all passes but the last
pub measured_plain : (program : Program) → StopsPlainly (measured program)
unfolding measured
measured_plain program =
    after_place Name (λ forbids. forbids) (unless (wrong_name program)) _ (λ right.
    after_test Size (λ forbids. forbids) (query_span (unfolded program))
    (has_few_nodes (unfolded program)) _ (λ few.
    after (resolved outside (layout_of program.stream).columns (unfolded program)) _
    (resolved_plain outside (layout_of program.stream).columns (unfolded program)) (λ query.
    after (limited (layout_of program.stream) (unfolded program) query) _
    (limited_plain (layout_of program.stream) (unfolded program) query) (λ small.
    after (parted program.stream (unfolded program) query) _
    (parted_plain program.stream (unfolded program) query) (λ cells. tt)))))

-- the rules of words
equal_plain : (columns : List Column) (r s : Regex) (rule : Rule)
    → BreaksEqual columns r s (Some rule) → IsPlain rule
equal_plain columns r s Reach broken = λ forbids. forbids
equal_plain columns r s Rates broken = λ forbids. forbids
equal_plain columns r s _ broken = absurd broken

pub fed_plain : (standing : Standing) (columns : List Column) (r : Regex) (rule : Rule)
    → BreaksFed standing columns r (Some rule) → IsPlain rule
fed_plain free columns r rule broken = absurd broken
fed_plain bound columns r Reach broken = λ forbids. forbids
fed_plain bound columns r Compose broken = λ forbids. forbids
fed_plain bound columns r _ broken = absurd broken

met_plain : (columns : List Column) (preds : List Predicate) (rule : Rule)
    → BreaksMet columns preds (Some rule) → IsPlain rule
met_plain columns preds Empty broken = λ forbids. forbids
met_plain columns preds _ broken = absurd broken

pub plain_at : (columns : List Column) (standing : Standing) (query : Qre) (rule : Rule)
    → question_of query ≡ None → BreaksAt columns standing query (Some rule) → IsPlain rule
plain_at columns standing (atom pred e) Empty none broken = λ forbids. forbids
plain_at columns standing (atom pred e) _ none broken = absurd broken
plain_at columns standing (eps number) rule none broken = absurd broken
plain_at columns standing (choice f g) rule none broken = absurd (cc)
plain_at columns standing (split f g e) rule none broken = absurd (cc)
plain_at columns standing (iter f n e) rule none broken = absurd (cc)
plain_at columns standing (combine f g e) rule none broken =
    equal_plain columns (rate_of f) (rate_of g) rule broken
plain_at columns standing (apply f e) rule none broken = absurd broken
plain_at columns standing (compose f g) rule none broken =
    fed_plain standing (derived_columns (type_of columns f)) (rate_of g) rule broken
plain_at columns standing (collect chosen sync rate f) rule none broken =
    met_plain columns (preds_of rate) rule broken
