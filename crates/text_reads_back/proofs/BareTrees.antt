-- What a query is written as has no places.
use Rattle.std.proofs.Common.{◌≡◌, ℕ, ◌+◌, Bool, true, false, List, [], ◌∷◌, map, refl, ap}
use Rattle.std.specs.List.{AllByRecursion}
use Rattle.expressions.specs.Expressions as value
use Rattle.expressions.specs.Expressions.{Expression, Expressions}
use Rattle.item_schema.specs.Layout.{Layout}
use Rattle.item_schema.specs.declared.column.Column.{Column}
use Rattle.item_schema.specs.declared.column.Kind.{Kind}
use Rattle.item_schema.specs.declared.column.Kind.TheVariants.{Int, Fixed, Text, Number, Table}
use Rattle.predicates.specs.Predicates as test
use Rattle.predicates.specs.Predicates.{Predicate}
use Rattle.query_parser.specs.Printing.{nowhere}
use Rattle.query_syntax.specs.Expressions as e
use Rattle.query_syntax.specs.Predicates as p
use Rattle.query_syntax.specs.Queries.{Query}
use Rattle.query_syntax.specs.Rates as r
use Rattle.query_syntax.specs.declared.key.Key.TheVariants as key
use Rattle.query_syntax.specs.declared.operator.Connective.TheVariants as connective
use Rattle.query_syntax.specs.declared.operator.Extremum.TheVariants as extremum
use Rattle.query_syntax.specs.declared.operator.Join.TheVariants as join
use Rattle.query_text.specs.Lets.{let_at}
use Rattle.query_text.specs.Names.{Naming, field_name, let_name, named, var_name}
use Rattle.query_text.specs.Programs.{column_tree, kind_tree, lets_from, mode_tree}
use Rattle.query_text.specs.Trees.{expression_tree, expression_trees, key_tree, predicate_tree}
use Rattle.query_text.specs.Trees.{rate_tree}
use Rattle.rate_expr.specs.Rates as rate
use Rattle.rate_expr.specs.Rates.{Regex}
use Rattle.text_reads_back.proofs.Bare.{bare_column, bare_expression, bare_expressions, bare_key}
use Rattle.text_reads_back.proofs.Bare.{bare_kind, bare_let, bare_mode, bare_name, bare_predicate}
use Rattle.text_reads_back.proofs.Bare.{bare_program, bare_query, bare_rate}
use Rattle.text_reads_back.proofs.FileTerms.{file_of}

module _ (naming : Naming) where
  mutual
    pub expression_is_bare : (x : Expression)
        → bare_expression (expression_tree naming x) ≡ expression_tree naming x
    expression_is_bare (value.literal number) = refl
    expression_is_bare (value.read name) = refl
    expression_is_bare (value.unary op inner) =
        ap (λ t. e.unary op t nowhere) (expression_is_bare inner)
    expression_is_bare (value.binary op first second) =
        let a = expression_is_bare first in
        let b = expression_is_bare second in
        λ i. e.binary op (a i) (b i) nowhere
    expression_is_bare (value.choice op first second met other) =
        let a = expression_is_bare first in
        let b = expression_is_bare second in
        let c = expression_is_bare met in
        let d = expression_is_bare other in
        λ i. e.choice op (a i) (b i) nowhere (c i) (d i) nowhere
    expression_is_bare (value.sum name) = refl
    expression_is_bare (value.count name) = refl
    expression_is_bare (value.most name first) =
        ap (λ t. e.extremum extremum.Max (named (var_name naming name)) t nowhere)
        (expression_is_bare first)
    expression_is_bare (value.least name first) =
        ap (λ t. e.extremum extremum.Min (named (var_name naming name)) t nowhere)
        (expression_is_bare first)
    expression_is_bare (value.entry name text other) =
        ap (λ t. e.get (named (var_name naming name)) (record { bytes = text; span = nowhere }) t
        nowhere)
        (expression_is_bare other)
    expression_is_bare (value.rec parts) = ap (λ t. e.rec t nowhere) (expressions_are_bare parts)
    expression_is_bare (value.part name place) = refl

    expressions_are_bare : (x : Expressions)
        → bare_expressions (expression_trees naming x) ≡ expression_trees naming x
    expressions_are_bare value.none = refl
    expressions_are_bare (value.more first rest) =
        let one = expression_is_bare first in
        let others = expressions_are_bare rest in
        λ i. e.more (one i) (others i)

  pub predicate_is_bare : (x : Predicate)
      → bare_predicate (predicate_tree naming x) ≡ predicate_tree naming x
  predicate_is_bare test.any = refl
  predicate_is_bare (test.eq column number) = refl
  predicate_is_bare (test.ne column number) = refl
  predicate_is_bare (test.lt column number) = refl
  predicate_is_bare (test.le column number) = refl
  predicate_is_bare (test.gt column number) = refl
  predicate_is_bare (test.ge column number) = refl
  predicate_is_bare (test.between column low high) = refl
  predicate_is_bare (test.eq_text column text) = refl
  predicate_is_bare (test.ne_text column text) = refl
  predicate_is_bare (test.is_num column) = refl
  predicate_is_bare (test.conjunction left right) =
      let a = predicate_is_bare left in
      let b = predicate_is_bare right in
      λ i. p.joined connective.And (a i) (b i) nowhere
  predicate_is_bare (test.disjunction left right) =
      let a = predicate_is_bare left in
      let b = predicate_is_bare right in
      λ i. p.joined connective.Or (a i) (b i) nowhere
  predicate_is_bare (test.negation inner) =
      ap (λ t. p.negated t nowhere) (predicate_is_bare inner)

  pub rate_is_bare : (x : Regex) → bare_rate (rate_tree naming x) ≡ rate_tree naming x
  rate_is_bare rate.empty = refl
  rate_is_bare (rate.one pred) = ap (λ t. r.item t nowhere) (predicate_is_bare pred)
  rate_is_bare (rate.sequence left right) =
      let a = rate_is_bare left in
      let b = rate_is_bare right in
      λ i. r.joined join.Seq (a i) (b i) nowhere
  rate_is_bare (rate.choice left right) =
      let a = rate_is_bare left in
      let b = rate_is_bare right in
      λ i. r.joined join.Alt (a i) (b i) nowhere
  rate_is_bare (rate.star inner) = ap (λ t. r.star t nowhere) (rate_is_bare inner)

  names_are_bare : (chosen : List ℕ)
      → map bare_name (map (λ column. named (field_name naming column)) chosen)
      ≡ map (λ column. named (field_name naming column)) chosen
  names_are_bare [] = refl
  names_are_bare (column ∷ chosen) =
      ap (λ names. named (field_name naming column) ∷ names) (names_are_bare chosen)

  pub key_is_bare : (chosen : List ℕ) → bare_key (key_tree naming chosen) ≡ key_tree naming chosen
  key_is_bare [] = refl
  key_is_bare (column ∷ []) = refl
  key_is_bare (column ∷ other ∷ others) =
      ap (λ names. key.Columns names nowhere) (names_are_bare (column ∷ other ∷ others))

mode_is_bare : (has_header : Bool) → bare_mode (mode_tree has_header) ≡ mode_tree has_header
mode_is_bare true = refl
mode_is_bare false = refl

kind_is_bare : (kind : Kind) → bare_kind (kind_tree kind) ≡ kind_tree kind
kind_is_bare Int = refl
kind_is_bare (Fixed digits) = refl
kind_is_bare Text = refl
kind_is_bare Number = refl
kind_is_bare Table = refl

columns_are_bare : (columns : List Column)
    → map bare_column (map column_tree columns) ≡ map column_tree columns
columns_are_bare [] = refl
columns_are_bare (column ∷ columns) =
    let kinds = kind_is_bare column.kind in
    let others = columns_are_bare columns in
    λ i. record { name = named column.name; kind = kinds i; span = nowhere } ∷ others i

-- a query that has no places
abbrev pub IsBare : Query → Type 0
IsBare query = bare_query query ≡ query

lets_are_bare : (at : ℕ) (queries : List Query) → AllByRecursion IsBare queries
    → map bare_let (lets_from at queries) ≡ lets_from at queries
lets_are_bare at [] bare = refl
lets_are_bare at (query ∷ queries) bare =
    let one = bare.0 in
    let others = lets_are_bare (at + 1) queries bare.1 in
    λ i. record { name = named (let_name at); query = one i; span = nowhere } ∷ others i

pub file_is_bare : (layout : Layout) (queries : List Query) (at : ℕ)
    → AllByRecursion IsBare queries
    → bare_program (file_of layout queries at) ≡ file_of layout queries at
file_is_bare layout queries at bare =
    let modes = mode_is_bare layout.has_header in
    let columns = columns_are_bare layout.columns in
    let lets = lets_are_bare 0 queries bare in
    λ i. record {
      stream = record { mode = modes i; columns = columns i; span = nowhere };
      lets = lets i;
      main = record { query = let_at at; span = nowhere };
    }
