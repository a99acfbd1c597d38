-- Names and types are resolved to the same wherever a query stands.
use Rattle.std.proofs.Common.{◌≡◌, ℕ, Bool, true, false, ◌&&◌, List, [], ◌∷◌, map, Option, Some, None}
use Rattle.std.proofs.Common.{option_map, Result, Ok, Err, refl, sym, ap, ap₂, ◌∙◌}
use Rattle.std.specs.List.{list_all}
use Rattle.item_schema.specs.declared.column.Column.{Column}
use Rattle.language_base.specs.declared.refusal.Refusal.{Refusal}
use Rattle.language_base.specs.declared.rule.Rule.{Rule}
use Rattle.language_base.specs.declared.rule.Rule.TheVariants.{Mismatch, Nested}
use Rattle.language_base.specs.declared.span.Span.{Span}
use Rattle.predicates.specs.Fits.{fits}
use Rattle.query_model.specs.Queries.{Qre}
use Rattle.query_model.specs.QueryTypes as types
use Rattle.query_model.specs.QueryTypes.{type_of}
use Rattle.query_parser.specs.Printing.{nowhere}
use Rattle.query_resolver.specs.Expressions.{Scope, both_of, choice_of, expression_over}
use Rattle.query_resolver.specs.Expressions.{expressions_over, extremum_of, is_number, is_typed}
use Rattle.query_resolver.specs.Expressions.{more_of, named_in, table_form}
use Rattle.query_resolver.specs.Names.{column_named, columns_named, key_named, once, with_first}
use Rattle.query_resolver.specs.Rates.{joined_rates, rate_over}
use Rattle.query_resolver.specs.Resolved.{Nesting, have_texts, inside, may_collect, resolved}
use Rattle.query_resolver.specs.Resolved.{same_type}
use Rattle.query_resolver.specs.Steps.{◌>>=◌, found, provided}
use Rattle.query_resolver.specs.Tests.{both, equality_test, resolved_over}
use Rattle.query_syntax.specs.Expressions as e
use Rattle.query_syntax.specs.Keys.{names_of}
use Rattle.query_syntax.specs.Predicates as p
use Rattle.query_syntax.specs.Queries as q
use Rattle.query_syntax.specs.Queries.{Query}
use Rattle.query_syntax.specs.Rates as r
use Rattle.query_syntax.specs.declared.key.Key.{Key}
use Rattle.query_syntax.specs.declared.key.Key.TheVariants as key
use Rattle.query_syntax.specs.declared.leaf.Literal.{Literal}
use Rattle.query_syntax.specs.declared.leaf.Literal.TheVariants as literal
use Rattle.query_syntax.specs.declared.leaf.Name.{Name}
use Rattle.query_syntax.specs.declared.operator.Equality.{Equality}
use Rattle.query_syntax.specs.declared.operator.Equality.TheVariants.{Eq, Ne}
use Rattle.expressions.specs.Expressions as value
use Rattle.predicates.specs.Predicates as plain
use Rattle.rate_expr.specs.Rates as rates
use Rattle.rate_expr.specs.Rates.{preds_of}
use Rattle.value_ops.specs.declared.value.ValueType.TheVariants.{Number}
use Rattle.text_reads_back.proofs.Bare.{bare_expression, bare_expressions, bare_key, bare_literal}
use Rattle.text_reads_back.proofs.Bare.{bare_name, bare_predicate, bare_query, bare_rate}

module _ (scope : Scope) where
  mutual
    expression_same : (x : e.Expression)
        → expression_over scope (bare_expression x) ≡ expression_over scope x
    expression_same (e.number number) = refl
    expression_same (e.name name) = refl
    expression_same (e.unary op a span) = ap (option_map (value.unary op)) (expression_same a)
    expression_same (e.binary op a b span) =
        ap₂ (both_of (value.binary op)) (expression_same a) (expression_same b)
    expression_same (e.choice op a b at c d span) =
        let first = expression_same a in
        let second = expression_same b in
        let met = expression_same c in
        let other = expression_same d in
        λ i. choice_of (value.choice op) (first i) (second i) (met i) (other i)
    expression_same (e.summary op table span) = refl
    expression_same (e.extremum op table a span) =
        ap (table_form (extremum_of op) (named_in scope table.bytes)) (expression_same a)
    expression_same (e.get table text a span) =
        ap (table_form (λ name inner. value.entry name text.bytes inner)
        (named_in scope table.bytes)) (expression_same a)
    expression_same (e.rec parts span) = ap (option_map value.rec) (expressions_same parts)
    expression_same (e.part whole index span) = refl

    expressions_same : (x : e.Expressions)
        → expressions_over scope (bare_expressions x) ≡ expressions_over scope x
    expressions_same e.none = refl
    expressions_same (e.more first others) =
        ap₂ more_of (expression_same first) (expressions_same others)

module _ (columns : List Column) where
  operand_same : (op : Equality) (operand : Literal) (column : Option ℕ)
      → option_map (equality_test op (bare_literal operand)) column
      ≡ option_map (equality_test op operand) column
  operand_same Eq (literal.Number number) column = refl
  operand_same Ne (literal.Number number) column = refl
  operand_same Eq (literal.Text text) column = refl
  operand_same Ne (literal.Text text) column = refl

  predicate_same : (x : p.Predicate)
      → resolved_over columns (bare_predicate x) ≡ resolved_over columns x
  predicate_same (p.any span) = refl
  predicate_same (p.equality op column operand span) =
      operand_same op operand (column_named columns column.bytes)
  predicate_same (p.order op column bound span) = refl
  predicate_same (p.between column low high span) = refl
  predicate_same (p.is_num column span) = refl
  predicate_same (p.joined op a b span) = ap₂ (both op) (predicate_same a) (predicate_same b)
  predicate_same (p.negated a span) = ap (option_map plain.negation) (predicate_same a)

  rate_same : (x : r.Rate) → rate_over columns (bare_rate x) ≡ rate_over columns x
  rate_same (r.eps span) = refl
  rate_same (r.item f span) = ap (option_map rates.one) (predicate_same f)
  rate_same (r.joined op a b span) = ap₂ (joined_rates op) (rate_same a) (rate_same b)
  rate_same (r.star a span) = ap (option_map rates.star) (rate_same a)

  columns_same : (names : List Name)
      → columns_named columns (map bare_name names) ≡ columns_named columns names
  columns_same [] = refl
  columns_same (name ∷ names) =
      ap (with_first (column_named columns name.bytes)) (columns_same names)

  names_same : (names : List Name)
      → key_named columns (map bare_name names) ≡ key_named columns names
  names_same [] = refl
  names_same (name ∷ names) = ap once (columns_same (name ∷ names))

  key_same : (x : Key)
      → key_named columns (names_of (bare_key x)) ≡ key_named columns (names_of x)
  key_same (key.Column name) = refl
  key_same (key.Columns names span) = names_same names

-- what is found, whatever the refusal
abbrev forget : {A : Type 0} → Result A Refusal → Option A
forget (Ok a) = Some a
forget (Err why) = None

then : {A B : Type 0} (one other : Result A Refusal) (next after : A → Result B Refusal)
    → forget one ≡ forget other → ((a : A) → forget (next a) ≡ forget (after a))
    → forget (one >>= next) ≡ forget (other >>= after)
then (Ok a) (Ok b) next after same each =
    let one : a ≡ b = cc in each a ∙ ap (λ x. forget (after x)) one
then (Ok a) (Err why) next after same each = absurd (cc)
then (Err why) (Ok b) next after same each = absurd (cc)
then (Err why) (Err other) next after same each = refl

found_same : {A : Type 0} (rule : Rule) (span other : Span) (one two : Option A) → one ≡ two
    → forget (found rule span one) ≡ forget (found rule other two)
found_same {A} rule span other one two same = ap (λ o. forget (found rule span o)) same ∙ by two
  where
    by : (o : Option A) → forget (found rule span o) ≡ forget (found rule other o)
    by None = refl
    by (Some x) = refl

provided_same : (rule : Rule) (span other : Span) (test : Bool)
    → forget (provided rule span test) ≡ forget (provided rule other test)
provided_same rule span other true = refl
provided_same rule span other false = refl

query_same : (nesting : Nesting) (columns : List Column) (x : Query)
    → forget (resolved nesting columns (bare_query x)) ≡ forget (resolved nesting columns x)
unfolding resolved
query_same nesting columns (q.name name) = refl
query_same nesting columns (q.atom f value span) =
    then _ _ _ _ (found_same _ _ span _ _ (predicate_same columns f)) (λ pred.
    then _ _ _ _ (found_same _ _ span _ _ (expression_same _ value)) (λ expression.
    then _ _ _ _ (provided_same Mismatch nowhere span (fits columns pred)) (λ tests.
    then _ _ _ _ (provided_same Mismatch nowhere span
    (is_typed (types.of_columns columns) expression)) (λ typed. refl))))
query_same nesting columns (q.eps number span) = refl
query_same nesting columns (q.or f g span) =
    then _ _ _ _ (query_same nesting columns f) (λ left.
    then _ _ _ _ (query_same nesting columns g) (λ right.
    then _ _ _ _ (provided_same Mismatch nowhere span
    (same_type (type_of columns right) (type_of columns left))) (λ typed. refl)))
query_same nesting columns (q.split f g value span) =
    then _ _ _ _ (query_same nesting columns f) (λ left.
    then _ _ _ _ (query_same nesting columns g) (λ right.
    then _ _ _ _ (found_same _ _ span _ _ (expression_same _ value)) (λ expression.
    then _ _ _ _ (provided_same Mismatch nowhere span
    (is_typed (types.of_two (type_of columns left) (type_of columns right)) expression)) (λ typed. refl))))
query_same nesting columns (q.iter f first step span) =
    then _ _ _ _ (query_same nesting columns f) (λ inner.
    then _ _ _ _ (found_same _ _ span _ _ (expression_same _ step)) (λ expression.
    then _ _ _ _ (provided_same Mismatch nowhere span
    (is_number (types.of_two Number (type_of columns inner)) expression)) (λ typed. refl)))
query_same nesting columns (q.combine f g value span) =
    then _ _ _ _ (query_same nesting columns f) (λ left.
    then _ _ _ _ (query_same nesting columns g) (λ right.
    then _ _ _ _ (found_same _ _ span _ _ (expression_same _ value)) (λ expression.
    then _ _ _ _ (provided_same Mismatch nowhere span
    (is_typed (types.of_two (type_of columns left) (type_of columns right)) expression)) (λ typed. refl))))
query_same nesting columns (q.apply f value span) =
    then _ _ _ _ (query_same nesting columns f) (λ inner.
    then _ _ _ _ (found_same _ _ span _ _ (expression_same _ value)) (λ expression.
    then _ _ _ _ (provided_same Mismatch nowhere span
    (is_typed (types.of_one (type_of columns inner)) expression)) (λ typed. refl)))
query_same nesting columns (q.compose f g span) =
    then _ _ _ _ (query_same nesting columns f) (λ left.
    then _ _ _ _ (query_same inside _ g) (λ right. refl))
query_same nesting columns (q.collect names sync rate f span) =
    then _ _ _ _ (query_same inside columns f) (λ inner.
    then _ _ _ _ (found_same _ _ span _ _ (key_same columns names)) (λ chosen.
    then _ _ _ _ (found_same _ _ span _ _ (predicate_same columns sync)) (λ pred.
    then _ _ _ _ (found_same _ _ span _ _ (rate_same columns rate)) (λ words.
    then _ _ _ _ (provided_same Nested nowhere span (may_collect nesting)) (λ nested.
    then _ _ _ _ (provided_same Mismatch nowhere span
    (same_type (type_of columns inner) Number && (have_texts columns chosen
    && (fits columns pred && list_all (fits columns) (preds_of words))))) (λ typed. refl))))))

-- what is resolved without its places is resolved so at them
pub resolved_at_places : (nesting : Nesting) (columns : List Column) (x : Query) (query : Qre)
    → resolved nesting columns (bare_query x) ≡ Ok query → resolved nesting columns x ≡ Ok query
resolved_at_places nesting columns x query is =
    by (resolved nesting columns x) (sym (query_same nesting columns x) ∙ ap forget is)
  where
    by : (result : Result Qre Refusal) → forget result ≡ Some query → result ≡ Ok query
    by (Ok other) same = let one : other ≡ query = cc in ap Ok one
    by (Err why) same = absurd (cc)
