-- Each node of a query that keeps the rules has a let, and the last of them stands for the query.
use Rattle.std.proofs.Common.{◌≡◌, ◌≤◌, ◌+◌, List, [], ◌∷◌, length, codes, refl, ap, ap₂, arith}
use Rattle.item_schema.specs.declared.column.Column.{Column}
use Rattle.expressions.specs.Expressions.{Expression}
use Rattle.expressions.specs.Typing.{HasType}
use Rattle.language_base.specs.Limits.{max_nodes}
use Rattle.query_forms.specs.Terms.{Terms, none, number}
use Rattle.query_forms.specs.declared.term_place.TermPlace.TheVariants as spot
use Rattle.query_model.specs.Bounds.{nodes_of, width_of}
use Rattle.query_model.specs.Queries.{Qre, atom, eps, choice, split, iter, combine, apply, compose}
use Rattle.query_model.specs.Queries.{collect}
use Rattle.query_model.specs.QueryTypes as types
use Rattle.query_model.specs.QueryTypes.{derived_columns, type_of}
use Rattle.query_parser.specs.Printing.{nowhere}
use Rattle.query_resolver.specs.Findings.{KeepsTypes}
use Rattle.query_resolver.proofs.ValueTypes.{gives_values}
use Rattle.query_rewrite.specs.Levels.{HasFewLevels, levels_of, max_levels}
use Rattle.query_syntax.specs.Queries as q
use Rattle.query_syntax.specs.Queries.{Query}
use Rattle.query_syntax.specs.Written.{expression_before, key_before, predicate_before}
use Rattle.query_syntax.specs.Written.{query_before, rate_before}
use Rattle.query_text.specs.Lets.{let_at, placed}
use Rattle.query_text.specs.Memory.{FitsMemory, HasTextKeys}
use Rattle.query_text.specs.Names.{Naming, of_values}
use Rattle.query_text.specs.Trees.{expression_tree, key_tree, numbered, predicate_tree, rate_tree}
use Rattle.value_ops.specs.Types.{IsType}
use Rattle.value_ops.specs.declared.value.ValueType.{ValueType}
use Rattle.value_ops.specs.declared.value.ValueType.TheVariants as type
use Rattle.text_reads_back.proofs.BareTrees.{expression_is_bare, key_is_bare, predicate_is_bare}
use Rattle.text_reads_back.proofs.BareTrees.{rate_is_bare}
use Rattle.text_reads_back.proofs.ExpressionTerms.{expression_written}
use Rattle.text_reads_back.proofs.Fitted.{Stands, before, call_of_one, call_of_two, form_stands}
use Rattle.text_reads_back.proofs.Fitted.{no_term, number_stands}
use Rattle.text_reads_back.proofs.Names.{AreNames}
use Rattle.text_reads_back.proofs.NamesLead.{item_words, one_words, two_words}
use Rattle.text_reads_back.proofs.Placing.{alone_placed, apply_placed, combine_placed}
use Rattle.text_reads_back.proofs.Placing.{compose_placed, inner_means, inner_stands, iter_placed}
use Rattle.text_reads_back.proofs.Placing.{little, one_placed, or_placed, split_placed}
use Rattle.text_reads_back.proofs.PredicateTerms.{key_written, predicate_written, rate_written}
use Rattle.text_reads_back.proofs.Ranges.{number_within}
use Rattle.text_reads_back.proofs.Sharing.{AreLets, IsPlaced}
use Rattle.text_reads_back.proofs.Whole.{right_names, whole}

module _ (columns : List Column) (naming : Naming) (names : AreNames naming columns) where
  -- an expression on the fields of an item
  item_written : (e : Expression) (ty : ValueType) (rest : Terms)
      → HasType (types.of_columns columns) e ty → HasTextKeys e → levels_of e ≤ max_levels
      → Stands 3 spot.Expr (expression_before (expression_tree naming e) rest) rest
  item_written e ty rest is keys few =
      expression_written naming (types.of_columns columns) (item_words columns naming names) e ty 3
      rest is keys (omega (arith, few))

-- on one value, and on two
one_written : (naming : Naming) (columns : List Column) (f : Qre) (e : Expression) (ty : ValueType)
    (rest : Terms) → KeepsTypes columns f → HasType (types.of_one (type_of columns f)) e ty
    → HasTextKeys e → levels_of e ≤ max_levels
    → Stands 3 spot.Expr (expression_before (expression_tree naming e) rest) rest
one_written naming columns f e ty rest keeps is keys few =
    expression_written naming (types.of_one (type_of columns f))
    (one_words naming (type_of columns f) (gives_values columns f keeps)) e ty 3 rest is keys
    (omega (arith, few))

two_written : (naming : Naming) (left right : ValueType) (e : Expression) (ty : ValueType)
    (rest : Terms) → IsType left → IsType right → HasType (types.of_two left right) e ty
    → HasTextKeys e → levels_of e ≤ max_levels
    → Stands 3 spot.Expr (expression_before (expression_tree naming e) rest) rest
two_written naming left right e ty rest is_left is_right is keys few =
    expression_written naming (types.of_two left right)
    (two_words naming left right is_left is_right) e ty 3 rest is keys (omega (arith, few))

pub query_is_placed : (columns : List Column) (naming : Naming) (query : Qre)
    (queries : List Query) → AreNames naming columns → KeepsTypes columns query
    → HasFewLevels query → FitsMemory query → AreLets queries
    → length queries + nodes_of query ≤ max_nodes
    → IsPlaced queries (placed naming query queries) (whole naming query) (nodes_of query)
query_is_placed columns naming (atom pred value) queries names keeps levels fits lets few =
    let last = expression_before (expression_tree naming value) none in
    alone_placed queries (q.atom (predicate_tree naming pred) (expression_tree naming value) nowhere)
    (q.atom (predicate_tree naming pred) (expression_tree naming value) nowhere) lets
    (record {
      stands = λ rest. call_of_two 2 spot.Query (codes "atom") rest nowhere spot.Pred spot.Expr
          (predicate_before (predicate_tree naming pred) last) last refl refl
          (omega arith)
          (predicate_written columns naming names.word pred 3 last keeps.0 fits.0
          (omega (arith, levels.0)))
          (item_written columns naming names value _ none keeps.1 fits.1 levels.1);
      bare = ap₂ (λ a b. q.atom a b nowhere) (predicate_is_bare naming pred)
          (expression_is_bare naming value);
      closed = tt;
    })
    (omega (arith, few)) refl
query_is_placed columns naming (eps value) queries names keeps levels fits lets few =
    alone_placed queries (q.eps (numbered value) nowhere) (q.eps (numbered value) nowhere) lets
    (record {
      stands = λ rest. call_of_one 2 spot.Query (codes "eps") rest nowhere spot.Number
          (number value nowhere none) refl refl (omega arith)
          (number_stands 3 spot.Number value none nowhere (omega arith) (number_within value keeps)
          refl);
      bare = refl;
      closed = tt;
    })
    (omega (arith, few)) refl
query_is_placed columns naming (choice f g) queries names keeps levels fits lets few =
    let left = placed naming f queries in
    let first = query_is_placed columns naming f queries names keeps.0 levels.0 fits.0 lets
    (omega (arith, few)) in
    let right = placed naming g left.queries in
    let second = query_is_placed columns naming g left.queries names keeps.1 levels.1 fits.1
    first.lets (omega (arith, few, first.few)) in
    or_placed queries left right (whole naming f) (whole naming g) (nodes_of f) (nodes_of g) first
    second (omega (arith, few))
query_is_placed columns naming (split f g value) queries names keeps levels fits lets few =
    let left = placed naming f queries in
    let first = query_is_placed columns naming f queries names keeps.0 levels.0 fits.0 lets
    (omega (arith, few)) in
    let right = placed naming g left.queries in
    let second = query_is_placed columns naming g left.queries names keeps.1 levels.1 fits.1
    first.lets (omega (arith, few, first.few)) in
    split_placed queries left right (whole naming f) (whole naming g) (nodes_of f) (nodes_of g)
    first second (omega (arith, few)) naming value
    (λ rest. two_written naming (type_of columns f) (type_of columns g) value _ rest
    (gives_values columns f keeps.0) (gives_values columns g keeps.1) keeps.2 fits.2 levels.2)
query_is_placed columns naming (iter f value e) queries names keeps levels fits lets few =
    let inner = placed naming f queries in
    let first = query_is_placed columns naming f queries names keeps.0 levels.0 fits.0 lets
    (omega (arith, few)) in
    iter_placed queries inner (whole naming f) (nodes_of f) first (omega (arith, few)) naming e
    (λ rest. two_written naming type.Number (type_of columns f) e type.Number rest tt
    (gives_values columns f keeps.0) keeps.2 fits.1 levels.1)
    value keeps.1
query_is_placed columns naming (combine f g value) queries names keeps levels fits lets few =
    let left = placed naming f queries in
    let first = query_is_placed columns naming f queries names keeps.0 levels.0 fits.0 lets
    (omega (arith, few)) in
    let right = placed naming g left.queries in
    let second = query_is_placed columns naming g left.queries names keeps.1 levels.1 fits.1
    first.lets (omega (arith, few, first.few)) in
    combine_placed queries left right (whole naming f) (whole naming g) (nodes_of f) (nodes_of g)
    first second (omega (arith, few)) naming value
    (λ rest. two_written naming (type_of columns f) (type_of columns g) value _ rest
    (gives_values columns f keeps.0) (gives_values columns g keeps.1) keeps.2 fits.2 levels.2)
query_is_placed columns naming (apply f value) queries names keeps levels fits lets few =
    let inner = placed naming f queries in
    let first = query_is_placed columns naming f queries names keeps.0 levels.0 fits.0 lets
    (omega (arith, few)) in
    apply_placed queries inner (whole naming f) (nodes_of f) first (omega (arith, few)) naming value
    (λ rest. one_written naming columns f value _ rest keeps.0 keeps.1 fits.1 levels.1)
query_is_placed columns naming (compose f g) queries names keeps levels fits lets few =
    let left = placed naming f queries in
    let first = query_is_placed columns naming f queries names keeps.0 levels.0 fits.0 lets
    (omega (arith, few)) in
    let right = placed (of_values (width_of f)) g left.queries in
    let second = query_is_placed (derived_columns (type_of columns f)) (of_values (width_of f)) g
    left.queries (right_names columns f keeps.0) keeps.1 levels.1 fits.1 first.lets
    (omega (arith, few, first.few)) in
    compose_placed queries left right (whole naming f) (whole (of_values (width_of f)) g)
    (nodes_of f) (nodes_of g) first second (omega (arith, few))
query_is_placed columns naming (collect chosen sync rate f) queries names keeps levels fits lets
    few =
    let inner = placed naming f queries in
    let first = query_is_placed columns naming f queries names keeps.0 levels.0 fits.0 lets
    (omega (arith, few)) in
    let small = little queries inner (whole naming f) (nodes_of f) first (omega (arith, few)) in
    let operand = query_before (let_at inner.place) none in
    let words = rate_before (rate_tree naming rate) operand in
    let tests = predicate_before (predicate_tree naming sync) words in
    one_placed queries inner
    (q.collect (key_tree naming chosen) (predicate_tree naming sync) (rate_tree naming rate)
    (let_at inner.place) nowhere)
    (whole naming f)
    (q.collect (key_tree naming chosen) (predicate_tree naming sync) (rate_tree naming rate)
    (whole naming f) nowhere)
    (nodes_of f) first
    (record {
      stands = λ rest.
          form_stands 2 spot.Query (spot.Key ∷ spot.Pred ∷ spot.Rate ∷ spot.Query ∷ [])
          (codes "collect") (key_before (key_tree naming chosen) tests) rest nowhere (omega arith)
          refl refl (omega arith)
          (before 3 spot.Key (spot.Pred ∷ spot.Rate ∷ spot.Query ∷ []) _ tests
          (key_written columns naming names.word chosen 3 tests keeps.3.texts fits.1 (omega arith))
          (before 3 spot.Pred (spot.Rate ∷ spot.Query ∷ []) tests words
          (predicate_written columns naming names.word sync 3 words keeps.4 fits.2
          (omega (arith, levels.1)))
          (before 3 spot.Rate (spot.Query ∷ []) words operand
          (rate_written columns naming names.word rate 3 operand keeps.5 fits.3
          (omega (arith, levels.2)))
          (before 3 spot.Query [] operand none
          (inner_stands queries inner (whole naming f) (nodes_of f) first (omega (arith, few)) none)
          (no_term 3)))));
      bare = λ i. q.collect (key_is_bare naming chosen i) (predicate_is_bare naming sync i)
          (rate_is_bare naming rate i) (let_at inner.place) nowhere;
      closed = ((inner.place, first.within, refl), tt);
    })
    small
    (ap (λ a. q.collect (key_tree naming chosen) (predicate_tree naming sync)
    (rate_tree naming rate) a nowhere)
    (inner_means queries inner (whole naming f) (nodes_of f) first (omega (arith, few))))
