-- Expressions, predicates, rates and keys are resolved to what they were written of.
use Rattle.std.proofs.Common.{◌≡◌, ℕ, ◌==◌, Bool, true, false, not, ◌&&◌, ◌||◌, List, [], ◌∷◌, ◌++◌}
use Rattle.std.proofs.Common.{map, option_map, cond, Some, None, refl, sym, ap, ap₂, ◌∙◌, arith}
use Rattle.std.specs.List.{AllByRecursion, IsDistinct, list_all, list_any, slice_get}
use Rattle.std.proofs.lemmas.Map.Keys.{IsDistinct-head, IsDistinct-tail}
use Rattle.std.proofs.lemmas.Bool.{and_from, and_parts, eq-eqb, ne_eqb}
use Rattle.expressions.specs.Expressions as value
use Rattle.expressions.specs.Expressions.{Expression, Expressions}
use Rattle.expressions.specs.Typing.{AreNumbers, HasType, IsNumber, Types, type_named}
use Rattle.item_schema.specs.declared.column.Column.{Column}
use Rattle.predicates.specs.Fits.{fits, has_texts, is_number, is_text}
use Rattle.predicates.specs.Predicates as test
use Rattle.predicates.specs.Predicates.{Predicate}
use Rattle.predicates.specs.Truth.{passes}
use Rattle.query_model.specs.Rules.{AreKeyColumns}
use Rattle.query_resolver.specs.Expressions.{Scope, both_of, choice_of, expression_over}
use Rattle.query_resolver.specs.Expressions.{expressions_over, extremum_of, more_of, summary_of}
use Rattle.query_resolver.specs.Expressions.{table_form}
use Rattle.query_resolver.specs.Names.{column_named, columns_named, key_named, once, stand_once}
use Rattle.query_resolver.specs.Names.{with_first}
use Rattle.query_resolver.specs.Rates.{joined_rates, rate_over}
use Rattle.query_resolver.specs.Tests.{both, equality_test, order_test, resolved_over}
use Rattle.query_syntax.specs.Keys.{names_of}
use Rattle.query_syntax.specs.declared.leaf.Literal.TheVariants as literal
use Rattle.query_syntax.specs.declared.operator.Connective.TheVariants.{And, Or}
use Rattle.query_syntax.specs.declared.operator.Equality.TheVariants.{Eq, Ne}
use Rattle.query_syntax.specs.declared.operator.Extremum.TheVariants.{Max, Min}
use Rattle.query_syntax.specs.declared.operator.Join.TheVariants.{Seq, Alt}
use Rattle.query_syntax.specs.declared.operator.Order.TheVariants.{Lt, Le, Gt, Ge}
use Rattle.query_syntax.specs.declared.operator.Summary.TheVariants.{Sum, Count}
use Rattle.query_text.specs.Names.{Naming, field_name, named}
use Rattle.query_text.specs.Trees.{expression_tree, expression_trees, key_tree, numbered}
use Rattle.query_text.specs.Trees.{predicate_tree, rate_tree}
use Rattle.query_parser.specs.Printing.{nowhere}
use Rattle.rate_expr.specs.Rates as rate
use Rattle.rate_expr.specs.Rates.{Regex, preds_of}
use Rattle.value_ops.specs.declared.value.ValueType.{ValueType}
use Rattle.value_ops.specs.declared.value.ValueType.TheVariants as type
use Rattle.text_reads_back.proofs.ExpressionTerms.{part_of}
use Rattle.text_reads_back.proofs.Names.{AreNames}
use Rattle.text_reads_back.proofs.NamesLead.{Lead}
use Rattle.text_reads_back.proofs.PredicateTerms.{fit_parts, found}

module _ (scope : Scope) (types : Types) (naming : Naming) (lead : Lead scope types naming) where
  mutual
    number_resolved : (x : Expression) → IsNumber types x
        → expression_over scope (expression_tree naming x) ≡ Some x
    number_resolved (value.literal number) is = refl
    number_resolved (value.read name) is = ap (option_map value.read) (lead name type.Number is)
    number_resolved (value.unary op inner) is =
        ap (option_map (value.unary op)) (number_resolved inner is)
    number_resolved (value.binary op first second) is =
        ap₂ (both_of (value.binary op)) (number_resolved first is.0) (number_resolved second is.1)
    number_resolved (value.choice op first second met other) is =
        let a = number_resolved first is.0 in
        let b = number_resolved second is.1 in
        let c = number_resolved met is.2 in
        let d = number_resolved other is.3 in
        λ i. choice_of (value.choice op) (a i) (b i) (c i) (d i)
    number_resolved (value.sum name) is =
        ap (option_map (summary_of Sum)) (lead name type.Table is)
    number_resolved (value.count name) is =
        ap (option_map (summary_of Count)) (lead name type.Table is)
    number_resolved (value.most name first) is =
        ap₂ (table_form (extremum_of Max)) (lead name type.Table is.0)
        (number_resolved first is.1)
    number_resolved (value.least name first) is =
        ap₂ (table_form (extremum_of Min)) (lead name type.Table is.0)
        (number_resolved first is.1)
    number_resolved (value.entry name key other) is =
        ap₂ (table_form (λ table inner. value.entry table key inner)) (lead name type.Table is.0)
        (number_resolved other is.1)
    number_resolved (value.rec parts) is = absurd is
    number_resolved (value.part name place) is =
        let part = part_of (type_named types name) place is in
        ap (option_map (λ whole. value.part whole place))
        (lead name (type.Rec part.size) part.record_is)

    numbers_resolved : (x : Expressions) → AreNumbers types x
        → expressions_over scope (expression_trees naming x) ≡ Some x
    numbers_resolved value.none are = refl
    numbers_resolved (value.more first rest) are =
        ap₂ more_of (number_resolved first are.0) (numbers_resolved rest are.1)

  pub expression_resolved : (x : Expression) (ty : ValueType) → HasType types x ty
      → expression_over scope (expression_tree naming x) ≡ Some x
  expression_resolved x type.Number is = number_resolved x is
  expression_resolved (value.read name) (type.Rec size) is =
      ap (option_map value.read) (lead name (type.Rec size) is)
  expression_resolved (value.rec parts) (type.Rec size) is =
      ap (option_map value.rec) (numbers_resolved parts is.2)
  expression_resolved _ (type.Rec size) is = absurd is
  expression_resolved (value.read name) type.Table is =
      ap (option_map value.read) (lead name type.Table is)
  expression_resolved _ type.Table is = absurd is

-- all of a list pass a test
pub all_pass : (test : ℕ → Bool) (xs : List ℕ) → AllByRecursion (λ x. test x ≡ true) xs
    → list_all test xs ≡ true
all_pass test [] all = refl
all_pass test (x ∷ xs) all = and_from (test x) (list_all test xs) all.0 (all_pass test xs all.1)

-- equality of numbers has no side
differ : (one other : ℕ) → (one == other) ≡ false → (other == one) ≡ false
differ one other is = ne_eqb other one (λ same. by same)
  where
    by : other ≡ one → ⊥
    by same = let equal : (one == other) ≡ true = eq-eqb one other (sym same) in cc

none_equal : (one : ℕ) (others : List ℕ) → AllByRecursion (λ other. (one == other) ≡ false) others
    → list_any (λ other. other == one) others ≡ false
none_equal one [] differs = refl
none_equal one (other ∷ others) differs =
    ap₂ ◌||◌ (differ one other differs.0) (none_equal one others differs.1)

-- columns that differ stand once
stands_once : (chosen : List ℕ) → IsDistinct ◌==◌ chosen → stand_once chosen ≡ true
stands_once [] distinct = refl
stands_once (column ∷ others) distinct =
    ap₂ (λ any rest. not any && rest)
    (none_equal column others (IsDistinct-head ◌==◌ column others distinct))
    (stands_once others (IsDistinct-tail ◌==◌ column others distinct))

module _ (columns : List Column) (naming : Naming) (names : AreNames naming columns) where
  -- a column that passes a test is found by its name
  column_found : (passed : Column → Bool) (column : ℕ)
      → passes passed (slice_get columns column) ≡ true
      → column_named columns (field_name naming column) ≡ Some column
  column_found passed column is =
      let there = found passed (slice_get columns column) is in
      names.leads column there.0 there.1

  number_found : (column : ℕ) → passes (λ c. is_number c.kind) (slice_get columns column) ≡ true
      → column_named columns (field_name naming column) ≡ Some column
  number_found = column_found (λ c. is_number c.kind)

  text_found : (column : ℕ) → has_texts columns column ≡ true
      → column_named columns (field_name naming column) ≡ Some column
  text_found = column_found (λ c. is_text c.kind)

  pub predicate_resolved : (x : Predicate) → fits columns x ≡ true
      → resolved_over columns (predicate_tree naming x) ≡ Some x
  predicate_resolved test.any fit = refl
  predicate_resolved (test.eq column number) fit =
      ap (option_map (equality_test Eq (literal.Number (numbered number))))
      (number_found column fit)
  predicate_resolved (test.ne column number) fit =
      ap (option_map (equality_test Ne (literal.Number (numbered number))))
      (number_found column fit)
  predicate_resolved (test.lt column number) fit =
      ap (option_map (order_test Lt number)) (number_found column fit)
  predicate_resolved (test.le column number) fit =
      ap (option_map (order_test Le number)) (number_found column fit)
  predicate_resolved (test.gt column number) fit =
      ap (option_map (order_test Gt number)) (number_found column fit)
  predicate_resolved (test.ge column number) fit =
      ap (option_map (order_test Ge number)) (number_found column fit)
  predicate_resolved (test.between column low high) fit =
      ap (option_map (λ c. test.between c low high)) (number_found column fit)
  predicate_resolved (test.eq_text column text) fit =
      ap (option_map (equality_test Eq (literal.Text (record { bytes = text; span = nowhere }))))
      (text_found column fit)
  predicate_resolved (test.ne_text column text) fit =
      ap (option_map (equality_test Ne (literal.Text (record { bytes = text; span = nowhere }))))
      (text_found column fit)
  predicate_resolved (test.is_num column) fit =
      ap (option_map test.is_num) (number_found column fit)
  predicate_resolved (test.conjunction left right) fit =
      let parts = and_parts (fits columns left) (fits columns right) fit in
      ap₂ (both And) (predicate_resolved left parts.0) (predicate_resolved right parts.1)
  predicate_resolved (test.disjunction left right) fit =
      let parts = and_parts (fits columns left) (fits columns right) fit in
      ap₂ (both Or) (predicate_resolved left parts.0) (predicate_resolved right parts.1)
  predicate_resolved (test.negation inner) fit =
      ap (option_map test.negation) (predicate_resolved inner fit)

  pub rate_resolved : (x : Regex) → list_all (fits columns) (preds_of x) ≡ true
      → rate_over columns (rate_tree naming x) ≡ Some x
  rate_resolved rate.empty fit = refl
  rate_resolved (rate.one pred) fit =
      ap (option_map rate.one) (predicate_resolved pred (and_parts (fits columns pred) true fit).0)
  rate_resolved (rate.sequence left right) fit =
      let parts = fit_parts columns (preds_of left) (preds_of right) fit in
      ap₂ (joined_rates Seq) (rate_resolved left parts.0) (rate_resolved right parts.1)
  rate_resolved (rate.choice left right) fit =
      let parts = fit_parts columns (preds_of left) (preds_of right) fit in
      ap₂ (joined_rates Alt) (rate_resolved left parts.0) (rate_resolved right parts.1)
  rate_resolved (rate.star inner) fit = ap (option_map rate.star) (rate_resolved inner fit)

  columns_resolved : (chosen : List ℕ)
      → AllByRecursion (λ column. has_texts columns column ≡ true) chosen
      → columns_named columns (map (λ column. named (field_name naming column)) chosen)
      ≡ Some chosen
  columns_resolved [] texts = refl
  columns_resolved (column ∷ chosen) texts =
      ap₂ with_first (text_found column texts.0) (columns_resolved chosen texts.1)

  -- one column, or several
  pub key_resolved : (chosen : List ℕ) → AreKeyColumns columns chosen
      → key_named columns (names_of (key_tree naming chosen)) ≡ Some chosen
  key_resolved [] are = let some = are.some in absurd (omega (arith, some))
  key_resolved (column ∷ []) are =
      ap once (columns_resolved (column ∷ []) are.texts)
      ∙ ap (λ once_is. cond once_is (Some (column ∷ [])) None)
      (stands_once (column ∷ []) are.distinct)
  key_resolved (column ∷ other ∷ others) are =
      ap once (columns_resolved (column ∷ other ∷ others) are.texts)
      ∙ ap (λ once_is. cond once_is (Some (column ∷ other ∷ others)) None)
      (stands_once (column ∷ other ∷ others) are.distinct)
