-- A tree of such parts is resolved to a query that keeps its types, lies in memory, has few levels
-- and has as many nodes.
use Rattle.std.proofs.Common.{◌≡◌, ◌≤◌, ◌&&◌, ℕ, ◌+◌, true, List, Some, IfOk}
use Rattle.std.proofs.Common.{refl, sym, ap, arith, subst, length}
use Rattle.std.specs.List.{list_all}
use Rattle.std.proofs.lemmas.Bool.{and_parts, eqb-true}
use Rattle.item_schema.specs.declared.column.Column.{Column}
use Rattle.language_base.specs.Limits.{max_level}
use Rattle.language_base.specs.declared.rule.Rule.TheVariants.{Mismatch, Nested}
use Rattle.predicates.specs.Fits.{fits}
use Rattle.query_lets.specs.Sizes as trees
use Rattle.query_model.specs.Bounds.{nodes_of}
use Rattle.query_model.specs.Keys.{IsKeySize}
use Rattle.query_model.specs.Queries.{Qre}
use Rattle.query_model.specs.QueryTypes as types
use Rattle.query_model.specs.QueryTypes.{derived_columns, type_of}
use Rattle.query_model.specs.Rules.{HasNoCollect}
use Rattle.query_resolver.specs.Expressions.{expression_over, is_number, is_typed, of_item, of_one}
use Rattle.query_resolver.specs.Expressions.{of_two}
use Rattle.query_resolver.specs.Findings.{KeepsTypes}
use Rattle.query_resolver.specs.Names.{key_named}
use Rattle.query_resolver.specs.Rates.{rate_over}
use Rattle.query_resolver.specs.Resolved.{Nesting, have_texts, inside, may_collect, resolved}
use Rattle.query_resolver.specs.Resolved.{same_type}
use Rattle.query_resolver.specs.Tests.{resolved_over}
use Rattle.query_resolver.proofs.After.{after_such}
use Rattle.query_resolver.proofs.Nested.{none_inside}
use Rattle.query_rewrite.specs.Levels.{HasFewLevels, max_levels}
use Rattle.query_syntax.specs.Keys.{names_of}
use Rattle.query_syntax.specs.Queries as q
use Rattle.query_syntax.specs.Queries.{Query}
use Rattle.query_text.specs.Memory.{FitsMemory}
use Rattle.rate_expr.specs.Rates.{preds_of}
use Rattle.value_ops.specs.declared.value.ValueType.{ValueType}
use Rattle.value_ops.specs.declared.value.ValueType.TheVariants.{Number, Rec, Table}
use Rattle.rewritten_texts.proofs.NamedKeys.{as_many_named, key_columns}
use Rattle.rewritten_texts.proofs.Parts.{HasParts}
use Rattle.rewritten_texts.proofs.PassedTests.{number_passed, typed_passed}
use Rattle.rewritten_texts.proofs.Steps.{after_found, after_test, both_hold}

-- the query as it is resolved
pub record IsResolved (columns : List Column) (tree : Query) (query : Qre) : Type 0 where
  pub types : KeepsTypes columns query
  pub memory : FitsMemory query
  pub levels : HasFewLevels query
  pub nodes : nodes_of query ≡ trees.nodes_of tree

-- types that pass the test are the same
same_passed : (one other : ValueType) → same_type one other ≡ true → one ≡ other
same_passed Number Number is = refl
same_passed (Rec size) (Rec count) is = ap Rec (eqb-true size count is)
same_passed Table Table is = refl
same_passed _ _ is = cc

-- what stands inside of a node has few levels
at_most : (levels : ℕ) → 3 + levels ≤ max_level + 1 → levels ≤ max_levels
at_most levels few = omega (arith, few)

-- over two operands
both_nodes : (m n a b : ℕ) → m ≡ a → n ≡ b → m + n + 1 ≡ a + b + 1
both_nodes m n a b left right = omega arith

pub resolved_parts : (nesting : Nesting) (columns : List Column) (tree : Query) → HasParts tree
    → IfOk (resolved nesting columns tree) (IsResolved columns tree)
unfolding resolved
resolved_parts nesting columns (q.name name) has = tt
resolved_parts nesting columns (q.atom predicate value span) has =
    let P = IsResolved columns (q.atom predicate value span) in
    after_found P span (resolved_over columns predicate) _ (λ pred is_pred.
    after_found P span (expression_over (of_item columns) value) _ (λ expression is_value.
    after_test P Mismatch span (fits columns pred) _ (λ fit.
    after_test P Mismatch span (is_typed (types.of_columns columns) expression) _ (λ typed.
    let test = has.0 columns pred is_pred in
    let made = has.1 (of_item columns) expression is_value in record {
      types = (fit, typed_passed (types.of_columns columns) expression made.numbers typed);
      memory = (test.operands, made.keys);
      levels = (at_most _ test.levels, at_most _ made.levels);
      nodes = refl;
    }))))
resolved_parts nesting columns (q.eps number span) has = record {
  types = has;
  memory = tt;
  levels = tt;
  nodes = refl;
}
resolved_parts nesting columns (q.or left right span) has =
    let P = IsResolved columns (q.or left right span) in
    after_such (IsResolved columns left) P (resolved nesting columns left) _
    (resolved_parts nesting columns left has.0) (λ f of_f.
    after_such (IsResolved columns right) P (resolved nesting columns right) _
    (resolved_parts nesting columns right has.1) (λ g of_g.
    after_test P Mismatch span (same_type (type_of columns g) (type_of columns f)) _ (λ same.
    record {
      types = (of_f.types, of_g.types, same_passed (type_of columns g) (type_of columns f) same);
      memory = (of_f.memory, of_g.memory);
      levels = (of_f.levels, of_g.levels);
      nodes = both_nodes (nodes_of f) (nodes_of g) _ _ of_f.nodes of_g.nodes;
    })))
resolved_parts nesting columns (q.split left right value span) has =
    let P = IsResolved columns (q.split left right value span) in
    after_such (IsResolved columns left) P (resolved nesting columns left) _
    (resolved_parts nesting columns left has.0) (λ f of_f.
    after_such (IsResolved columns right) P (resolved nesting columns right) _
    (resolved_parts nesting columns right has.1) (λ g of_g.
    after_found P span (expression_over of_two value) _ (λ expression is_value.
    after_test P Mismatch span
    (is_typed (types.of_two (type_of columns f) (type_of columns g)) expression) _ (λ typed.
    let made = has.2 of_two expression is_value in record {
      types = (
        of_f.types,
        of_g.types,
        typed_passed (types.of_two (type_of columns f) (type_of columns g)) expression made.numbers
            typed,
      );
      memory = (of_f.memory, of_g.memory, made.keys);
      levels = (of_f.levels, of_g.levels, at_most _ made.levels);
      nodes = both_nodes (nodes_of f) (nodes_of g) _ _ of_f.nodes of_g.nodes;
    }))))
resolved_parts nesting columns (q.iter operand first step span) has =
    let P = IsResolved columns (q.iter operand first step span) in
    after_such (IsResolved columns operand) P (resolved nesting columns operand) _
    (resolved_parts nesting columns operand has.0) (λ f of_f.
    after_found P span (expression_over of_two step) _ (λ expression is_value.
    after_test P Mismatch span (is_number (types.of_two Number (type_of columns f)) expression) _
    (λ typed.
    let made = has.2 of_two expression is_value in record {
      types = (
        of_f.types,
        has.1,
        number_passed (types.of_two Number (type_of columns f)) expression made.numbers typed,
      );
      memory = (of_f.memory, made.keys);
      levels = (of_f.levels, at_most _ made.levels);
      nodes = ap (λ n. n + 1) of_f.nodes;
    })))
resolved_parts nesting columns (q.combine left right value span) has =
    let P = IsResolved columns (q.combine left right value span) in
    after_such (IsResolved columns left) P (resolved nesting columns left) _
    (resolved_parts nesting columns left has.0) (λ f of_f.
    after_such (IsResolved columns right) P (resolved nesting columns right) _
    (resolved_parts nesting columns right has.1) (λ g of_g.
    after_found P span (expression_over of_two value) _ (λ expression is_value.
    after_test P Mismatch span
    (is_typed (types.of_two (type_of columns f) (type_of columns g)) expression) _ (λ typed.
    let made = has.2 of_two expression is_value in record {
      types = (
        of_f.types,
        of_g.types,
        typed_passed (types.of_two (type_of columns f) (type_of columns g)) expression made.numbers
            typed,
      );
      memory = (of_f.memory, of_g.memory, made.keys);
      levels = (of_f.levels, of_g.levels, at_most _ made.levels);
      nodes = both_nodes (nodes_of f) (nodes_of g) _ _ of_f.nodes of_g.nodes;
    }))))
resolved_parts nesting columns (q.apply operand value span) has =
    let P = IsResolved columns (q.apply operand value span) in
    after_such (IsResolved columns operand) P (resolved nesting columns operand) _
    (resolved_parts nesting columns operand has.0) (λ f of_f.
    after_found P span (expression_over of_one value) _ (λ expression is_value.
    after_test P Mismatch span (is_typed (types.of_one (type_of columns f)) expression) _ (λ typed.
    let made = has.1 of_one expression is_value in record {
      types = (
        of_f.types,
        typed_passed (types.of_one (type_of columns f)) expression made.numbers typed,
      );
      memory = (of_f.memory, made.keys);
      levels = (of_f.levels, at_most _ made.levels);
      nodes = ap (λ n. n + 1) of_f.nodes;
    })))
resolved_parts nesting columns (q.compose left right span) has =
    let P = IsResolved columns (q.compose left right span) in
    after_such (IsResolved columns left) P (resolved nesting columns left) _
    (resolved_parts nesting columns left has.0) (λ f of_f.
    let values = derived_columns (type_of columns f) in
    after_such (λ g. IsResolved values right g × HasNoCollect g) P
    (resolved inside values right) _
    (both_hold (resolved inside values right) (IsResolved values right) HasNoCollect
    (resolved_parts inside values right has.1) (none_inside values right)) (λ g (of_g, none).
    record {
      types = (of_f.types, of_g.types, none);
      memory = (of_f.memory, of_g.memory);
      levels = (of_f.levels, of_g.levels);
      nodes = both_nodes (nodes_of f) (nodes_of g) _ _ of_f.nodes of_g.nodes;
    }))
resolved_parts nesting columns (q.collect key sync rate operand span) has =
    let P = IsResolved columns (q.collect key sync rate operand span) in
    after_such (λ f. IsResolved columns operand f × HasNoCollect f) P
    (resolved inside columns operand) _
    (both_hold (resolved inside columns operand) (IsResolved columns operand) HasNoCollect
    (resolved_parts inside columns operand has.0) (none_inside columns operand)) (λ f (of_f, none).
    after_found P span (key_named columns (names_of key)) _ (λ chosen is_key.
    after_found P span (resolved_over columns sync) _ (λ pred is_pred.
    after_found P span (rate_over columns rate) _ (λ words is_rate.
    after_test P Nested span (may_collect nesting) _ (λ nested.
    after_test P Mismatch span (same_type (type_of columns f) Number
    && (have_texts columns chosen
    && (fits columns pred && list_all (fits columns) (preds_of words)))) _ (λ passed.
    let test = has.2 columns pred is_pred in
    let made = has.3 columns words is_rate in
    let all = and_parts (same_type (type_of columns f) Number)
    (have_texts columns chosen
    && (fits columns pred && list_all (fits columns) (preds_of words))) passed in
    let parts = and_parts (have_texts columns chosen)
    (fits columns pred && list_all (fits columns) (preds_of words)) all.1 in
    let tests = and_parts (fits columns pred) (list_all (fits columns) (preds_of words)) parts.1 in
    let size = has.1 in record {
      types = (
        of_f.types,
        same_passed (type_of columns f) Number all.0,
        none,
        key_columns columns (names_of key) chosen is_key size.least parts.0,
        tests.0,
        tests.1,
      );
      memory = (
        of_f.memory,
        as_large columns (names_of key) chosen is_key size,
        test.operands,
        made.operands,
      );
      levels = (
        of_f.levels,
        at_most _ test.levels,
        at_most _ made.levels,
      );
      nodes = ap (λ n. n + 1) of_f.nodes;
    }))))))
  where
    as_large : (columns : List Column) (names : _) (chosen : List ℕ)
        → key_named columns names ≡ Some chosen → IsKeySize (length names)
        → IsKeySize (length chosen)
    as_large columns names chosen is size =
        subst IsKeySize (sym (as_many_named columns names chosen is)) size
