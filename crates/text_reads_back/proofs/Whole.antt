-- A query as one tree, without lets, which is resolved to it.
use Rattle.std.proofs.Common.{◌≡◌, ◌⊎◌, ◌+◌, true, ◌&&◌, List, Ok, Some, refl, ap, ap₂}
use Rattle.std.proofs.Common.{◌∙◌, subst, inl, inr, ⊎_elim}
use Rattle.std.proofs.lemmas.Bool.{eq-eqb}
use Rattle.item_schema.specs.declared.column.Column.{Column}
use Rattle.predicates.specs.Fits.{has_texts}
use Rattle.query_lets.specs.Sizes as trees
use Rattle.query_model.specs.Bounds.{nodes_of, width_of}
use Rattle.query_model.specs.Queries.{Qre, atom, eps, choice, split, iter, combine, apply, compose}
use Rattle.query_model.specs.Queries.{collect}
use Rattle.query_model.specs.QueryTypes as types
use Rattle.query_model.specs.QueryTypes.{derived_columns, type_of}
use Rattle.query_model.specs.Rules.{HasNoCollect}
use Rattle.query_model.proofs.Widths.{width_is}
use Rattle.query_parser.specs.Printing.{nowhere}
use Rattle.query_resolver.specs.Expressions.{expression_over, is_number, is_typed, of_item, of_one}
use Rattle.query_resolver.specs.Expressions.{of_two}
use Rattle.query_resolver.specs.Findings.{KeepsTypes}
use Rattle.query_resolver.specs.Names.{key_named}
use Rattle.query_resolver.specs.Rates.{rate_over}
use Rattle.query_resolver.specs.Resolved.{Nesting, have_texts, inside, may_collect, outside, resolved}
use Rattle.query_resolver.specs.Resolved.{same_type}
use Rattle.query_resolver.specs.Tests.{resolved_over}
use Rattle.query_resolver.proofs.ValueTypes.{gives_values}
use Rattle.query_syntax.specs.Keys.{names_of}
use Rattle.query_syntax.specs.Queries as q
use Rattle.query_syntax.specs.Queries.{Query}
use Rattle.query_text.specs.Names.{Naming, of_values}
use Rattle.query_text.specs.Trees.{expression_tree, key_tree, numbered, predicate_tree, rate_tree}
use Rattle.value_ops.specs.declared.value.ValueType.{ValueType}
use Rattle.value_ops.specs.declared.value.ValueType.TheVariants as type
use Rattle.text_reads_back.proofs.Names.{AreNames, value_names}
use Rattle.text_reads_back.proofs.NamesLead.{item_leads, one_leads, two_leads}
use Rattle.text_reads_back.proofs.PartsResolved.{all_pass, expression_resolved, key_resolved}
use Rattle.text_reads_back.proofs.PartsResolved.{predicate_resolved, rate_resolved}
use Rattle.text_reads_back.proofs.TypedTests.{number_passes, typed_passes}

-- the query over these names, with its operands in their places
abbrev pub whole : Naming → Qre → Query
whole naming (atom pred value) =
    q.atom (predicate_tree naming pred) (expression_tree naming value) nowhere
whole naming (eps number) = q.eps (numbered number) nowhere
whole naming (choice f g) = q.or (whole naming f) (whole naming g) nowhere
whole naming (split f g value) =
    q.split (whole naming f) (whole naming g) (expression_tree naming value) nowhere
whole naming (iter f number value) =
    q.iter (whole naming f) (numbered number) (expression_tree naming value) nowhere
whole naming (combine f g value) =
    q.combine (whole naming f) (whole naming g) (expression_tree naming value) nowhere
whole naming (apply f value) = q.apply (whole naming f) (expression_tree naming value) nowhere
whole naming (compose f g) =
    q.compose (whole naming f) (whole (of_values (width_of f)) g) nowhere
whole naming (collect chosen sync rate f) =
    q.collect (key_tree naming chosen) (predicate_tree naming sync) (rate_tree naming rate)
    (whole naming f) nowhere

-- it has as many nodes
pub whole_nodes : (naming : Naming) (query : Qre)
    → trees.nodes_of (whole naming query) ≡ nodes_of query
whole_nodes naming (atom pred value) = refl
whole_nodes naming (eps number) = refl
whole_nodes naming (choice f g) =
    ap₂ (λ m n. m + n + 1) (whole_nodes naming f) (whole_nodes naming g)
whole_nodes naming (split f g value) =
    ap₂ (λ m n. m + n + 1) (whole_nodes naming f) (whole_nodes naming g)
whole_nodes naming (iter f number value) = ap (λ n. n + 1) (whole_nodes naming f)
whole_nodes naming (combine f g value) =
    ap₂ (λ m n. m + n + 1) (whole_nodes naming f) (whole_nodes naming g)
whole_nodes naming (apply f value) = ap (λ n. n + 1) (whole_nodes naming f)
whole_nodes naming (compose f g) =
    ap₂ (λ m n. m + n + 1) (whole_nodes naming f) (whole_nodes (of_values (width_of f)) g)
whole_nodes naming (collect chosen sync rate f) = ap (λ n. n + 1) (whole_nodes naming f)

-- the fields of the right operand of a composition have their names
pub right_names : (columns : List Column) (f : Qre) → KeepsTypes columns f
    → AreNames (of_values (width_of f)) (derived_columns (type_of columns f))
right_names columns f keeps =
    subst (λ width. AreNames (of_values width) (derived_columns (type_of columns f)))
    (width_is columns f) (value_names (type_of columns f) (gives_values columns f keeps))

-- a type is the same as itself
same_itself : (one other : ValueType) → one ≡ other → same_type one other ≡ true
same_itself one other same = subst (λ ty. same_type one ty ≡ true) same (by one)
  where
    by : (ty : ValueType) → same_type ty ty ≡ true
    by type.Number = refl
    by (type.Rec size) = eq-eqb size size refl
    by type.Table = refl

-- a collection may stand there, or there is none
abbrev pub MayStand : Nesting → Qre → Type 0
MayStand nesting query = (nesting ≡ outside) ⊎ HasNoCollect query

pub first_may : (nesting : Nesting) (f : Qre) (A : Type 0)
    → (nesting ≡ outside) ⊎ (HasNoCollect f × A) → MayStand nesting f
first_may nesting f A may = ⊎_elim inl (λ none. inr none.0) may

pub second_may : (nesting : Nesting) (g : Qre) (A : Type 0)
    → (nesting ≡ outside) ⊎ (A × HasNoCollect g) → MayStand nesting g
second_may nesting g A may = ⊎_elim inl (λ none. inr none.1) may

collect_may : (nesting : Nesting) → (nesting ≡ outside) ⊎ ⊥ → may_collect nesting ≡ true
collect_may nesting may = ⊎_elim (λ is. ap may_collect is) (λ none. absurd none) may

-- it is resolved to the query
pub whole_resolved : (nesting : Nesting) (columns : List Column) (naming : Naming) (query : Qre)
    → AreNames naming columns → KeepsTypes columns query → MayStand nesting query
    → resolved nesting columns (whole naming query) ≡ Ok query
unfolding resolved
whole_resolved nesting columns naming (atom pred value) names keeps may =
    let tested : resolved_over columns (predicate_tree naming pred) ≡ Some pred =
    predicate_resolved columns naming names pred keeps.0 in
    let valued : expression_over (of_item columns) (expression_tree naming value) ≡ Some value =
    expression_resolved (of_item columns) (types.of_columns columns) naming
    (item_leads columns naming names) value _ keeps.1 in
    let passed : is_typed (types.of_columns columns) value ≡ true =
    typed_passes (types.of_columns columns) value _ keeps.1 in
    rw (tested, valued, keeps.0, passed) refl
whole_resolved nesting columns naming (eps number) names keeps may = refl
whole_resolved nesting columns naming (choice f g) names keeps may =
    let left : resolved nesting columns (whole naming f) ≡ Ok f =
    whole_resolved nesting columns naming f names keeps.0
    (first_may nesting f (HasNoCollect g) may) in
    let right : resolved nesting columns (whole naming g) ≡ Ok g =
    whole_resolved nesting columns naming g names keeps.1
    (second_may nesting g (HasNoCollect f) may) in
    let same : same_type (type_of columns g) (type_of columns f) ≡ true =
    same_itself (type_of columns g) (type_of columns f) keeps.2 in
    rw (left, right, same) refl
whole_resolved nesting columns naming (split f g value) names keeps may =
    let both = types.of_two (type_of columns f) (type_of columns g) in
    let left : resolved nesting columns (whole naming f) ≡ Ok f =
    whole_resolved nesting columns naming f names keeps.0
    (first_may nesting f (HasNoCollect g) may) in
    let right : resolved nesting columns (whole naming g) ≡ Ok g =
    whole_resolved nesting columns naming g names keeps.1
    (second_may nesting g (HasNoCollect f) may) in
    let valued : expression_over of_two (expression_tree naming value) ≡ Some value =
    expression_resolved of_two both naming
    (two_leads naming (type_of columns f) (type_of columns g)) value _ keeps.2 in
    let passed : is_typed both value ≡ true = typed_passes both value _ keeps.2 in
    rw (left, right, valued, passed) refl
whole_resolved nesting columns naming (iter f number value) names keeps may =
    let both = types.of_two type.Number (type_of columns f) in
    let inner : resolved nesting columns (whole naming f) ≡ Ok f =
    whole_resolved nesting columns naming f names keeps.0 may in
    let valued : expression_over of_two (expression_tree naming value) ≡ Some value =
    expression_resolved of_two both naming (two_leads naming type.Number (type_of columns f)) value
    type.Number keeps.2 in
    let passed : is_number both value ≡ true = number_passes both value keeps.2 in
    rw (inner, valued, passed) refl
whole_resolved nesting columns naming (combine f g value) names keeps may =
    let both = types.of_two (type_of columns f) (type_of columns g) in
    let left : resolved nesting columns (whole naming f) ≡ Ok f =
    whole_resolved nesting columns naming f names keeps.0
    (first_may nesting f (HasNoCollect g) may) in
    let right : resolved nesting columns (whole naming g) ≡ Ok g =
    whole_resolved nesting columns naming g names keeps.1
    (second_may nesting g (HasNoCollect f) may) in
    let valued : expression_over of_two (expression_tree naming value) ≡ Some value =
    expression_resolved of_two both naming
    (two_leads naming (type_of columns f) (type_of columns g)) value _ keeps.2 in
    let passed : is_typed both value ≡ true = typed_passes both value _ keeps.2 in
    rw (left, right, valued, passed) refl
whole_resolved nesting columns naming (apply f value) names keeps may =
    let one = types.of_one (type_of columns f) in
    let inner : resolved nesting columns (whole naming f) ≡ Ok f =
    whole_resolved nesting columns naming f names keeps.0 may in
    let valued : expression_over of_one (expression_tree naming value) ≡ Some value =
    expression_resolved of_one one naming (one_leads naming (type_of columns f)) value _ keeps.1 in
    let passed : is_typed one value ≡ true = typed_passes one value _ keeps.1 in
    rw (inner, valued, passed) refl
whole_resolved nesting columns naming (compose f g) names keeps may =
    let left : resolved nesting columns (whole naming f) ≡ Ok f =
    whole_resolved nesting columns naming f names keeps.0
    (first_may nesting f (HasNoCollect g) may) in
    let right : resolved inside (derived_columns (type_of columns f))
    (whole (of_values (width_of f)) g) ≡ Ok g =
    whole_resolved inside (derived_columns (type_of columns f)) (of_values (width_of f)) g
    (right_names columns f keeps.0) keeps.1 (inr keeps.2) in
    rw (left, right) refl
whole_resolved nesting columns naming (collect chosen sync rate f) names keeps may =
    let inner : resolved inside columns (whole naming f) ≡ Ok f =
    whole_resolved inside columns naming f names keeps.0 (inr keeps.2) in
    let key : key_named columns (names_of (key_tree naming chosen)) ≡ Some chosen =
    key_resolved columns naming names chosen keeps.3 in
    let tested : resolved_over columns (predicate_tree naming sync) ≡ Some sync =
    predicate_resolved columns naming names sync keeps.4 in
    let words : rate_over columns (rate_tree naming rate) ≡ Some rate =
    rate_resolved columns naming names rate keeps.5 in
    let nested : may_collect nesting ≡ true = collect_may nesting may in
    let number : same_type (type_of columns f) type.Number ≡ true =
    same_itself (type_of columns f) type.Number keeps.1 in
    let texts : have_texts columns chosen ≡ true =
    all_pass (has_texts columns) chosen keeps.3.texts in
    rw (inner, key, tested, words, nested, number, texts, keeps.4, keeps.5) refl
