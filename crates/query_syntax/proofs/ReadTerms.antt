-- What each term says at each place.
use Rattle.std.proofs.Common.{◌≡◌, ℕ, zero, suc, ℤ, pos, negsuc, List, [], ◌∷◌, length, Option}
use Rattle.std.proofs.Common.{Some, None, ap, ◌∙◌}
use Rattle.language_base.specs.declared.span.Span.{Span}
use Rattle.query_forms.specs.Terms.{Terms, none, word, number, string, call}
use Rattle.query_syntax.specs.declared.expression_head.ExpressionHead.{ExpressionHead}
use Rattle.query_syntax.specs.declared.expression_head.ExpressionHead.TheVariants as expression
use Rattle.query_syntax.specs.declared.key.Key.{Key}
use Rattle.query_syntax.specs.declared.key.Key.TheVariants as key
use Rattle.query_syntax.specs.declared.leaf.Index.{Index}
use Rattle.query_syntax.specs.declared.leaf.Literal.{Literal}
use Rattle.query_syntax.specs.declared.leaf.Literal.TheVariants as literal
use Rattle.query_syntax.specs.declared.leaf.Name.{Name}
use Rattle.query_syntax.specs.declared.leaf.Number.{Number}
use Rattle.query_syntax.specs.declared.leaf.Text.{Text}
use Rattle.language_base.specs.declared.compare.Compare.{Compare}
use Rattle.language_base.specs.declared.compare.Compare.TheVariants.{Lt}
use Rattle.query_syntax.specs.declared.predicate_head.PredicateHead.{PredicateHead}
use Rattle.query_syntax.specs.declared.predicate_head.PredicateHead.TheVariants as predicate
use Rattle.query_syntax.specs.declared.query_head.QueryHead.{QueryHead}
use Rattle.query_syntax.specs.declared.query_head.QueryHead.TheVariants as query
use Rattle.query_syntax.specs.declared.rate_head.RateHead.{RateHead}
use Rattle.query_syntax.specs.declared.rate_head.RateHead.TheVariants as rate
use Rattle.query_syntax.specs.ExpressionHeads.{expressions, comparisons}
use Rattle.query_syntax.specs.Expressions as e
use Rattle.query_syntax.specs.Expressions.{Expression, Expressions}
use Rattle.query_syntax.specs.PredicateHeads.{predicates}
use Rattle.query_syntax.specs.Predicates as p
use Rattle.query_syntax.specs.Predicates.{Predicate}
use Rattle.query_syntax.specs.Queries as q
use Rattle.query_syntax.specs.Queries.{Query}
use Rattle.query_syntax.specs.QueryHeads.{queries}
use Rattle.query_syntax.specs.RateHeads.{rates}
use Rattle.query_syntax.specs.Rates as r
use Rattle.query_syntax.specs.Rates.{Rate}
use Rattle.query_syntax.specs.Rows.{head_in}
use Rattle.query_syntax.proofs.SomeTrees.{Comparison}

-- a term read at each place; where it has no form of one, anything
pub record Reading : Type 0 where
  pub name : Name
  pub key : Key
  pub number : Number
  pub index : Index
  pub text : Text
  pub literal : Literal
  pub comparison : Comparison
  pub expression : Expression
  pub predicate : Predicate
  pub rate : Rate
  pub query : Query

-- a name, a number, an index, a string and a comparison that are nowhere
abbrev no_place : Span
no_place = record { from = 0; to = 0 }

abbrev no_name : Name
no_name = record { bytes = []; span = no_place }

abbrev no_number : Number
no_number = record { value = pos 0; span = no_place }

abbrev no_index : Index
no_index = record { value = 0; span = no_place }

abbrev no_text : Text
no_text = record { bytes = []; span = no_place }

abbrev no_comparison : Comparison
no_comparison =
    record { compare = Lt; left = e.name no_name; right = e.name no_name; span = no_place }

-- a name, a number and a string as they are read
abbrev pub name_reading : Name → Reading
name_reading n = record {
  name = n;
  key = key.Column n;
  number = no_number;
  index = no_index;
  text = no_text;
  literal = literal.Number no_number;
  comparison = no_comparison;
  expression = e.name n;
  predicate = p.any n.span;
  rate = r.eps n.span;
  query = q.name n;
}

abbrev index_from : ℤ → Span → Index
index_from (pos n) span = record { value = n; span = span }
index_from (negsuc n) span = no_index

abbrev pub number_reading : Number → Reading
number_reading n = record (name_reading no_name) {
  number = n;
  index = index_from n.value n.span;
  literal = literal.Number n;
  expression = e.number n;
}

abbrev pub text_reading : Text → Reading
text_reading t = record (name_reading no_name) { text = t; literal = literal.Text t }

-- one of the arguments
abbrev at : ℕ → List Reading → Reading
at n [] = name_reading no_name
at zero (first ∷ others) = first
at (suc n) (first ∷ others) = at n others

-- all of the arguments as names
abbrev pub all_names : List Reading → List Name
all_names [] = []
all_names (first ∷ others) = first.name ∷ all_names others

-- all of the arguments as expressions
abbrev pub all_expressions : List Reading → Expressions
all_expressions [] = e.none
all_expressions (first ∷ others) = e.more first.expression (all_expressions others)

-- a call, by what it is; a record may have any number of parts
abbrev pub expression_from : Option ExpressionHead → List Reading → Span → Expression
expression_from None rs span = e.rec (all_expressions rs) span
expression_from (Some (expression.Unary op)) rs span = e.unary op (at 0 rs).expression span
expression_from (Some (expression.Binary op)) rs span =
    e.binary op (at 0 rs).expression (at 1 rs).expression span
expression_from (Some expression.If) rs span =
    e.choice (at 0 rs).comparison.compare (at 0 rs).comparison.left (at 0 rs).comparison.right
    (at 0 rs).comparison.span (at 1 rs).expression (at 2 rs).expression span
expression_from (Some (expression.Summary op)) rs span = e.summary op (at 0 rs).name span
expression_from (Some (expression.Extremum op)) rs span =
    e.extremum op (at 0 rs).name (at 1 rs).expression span
expression_from (Some expression.Get) rs span =
    e.get (at 0 rs).name (at 1 rs).text (at 2 rs).expression span
expression_from (Some expression.Part) rs span = e.part (at 0 rs).name (at 1 rs).index span
expression_from (Some (expression.Record count)) rs span = e.rec (all_expressions rs) span

abbrev pub comparison_from : Option Compare → List Reading → Span → Comparison
comparison_from None rs span = no_comparison
comparison_from (Some compare) rs span =
    record {
      compare = compare;
      left = (at 0 rs).expression;
      right = (at 1 rs).expression;
      span = span;
    }

abbrev pub predicate_from : Option PredicateHead → List Reading → Span → Predicate
predicate_from None rs span = p.any span
predicate_from (Some (predicate.Equality op)) rs span =
    p.equality op (at 0 rs).name (at 1 rs).literal span
predicate_from (Some (predicate.Order op)) rs span = p.order op (at 0 rs).name (at 1 rs).number span
predicate_from (Some predicate.Between) rs span =
    p.between (at 0 rs).name (at 1 rs).number (at 2 rs).number span
predicate_from (Some predicate.IsNum) rs span = p.is_num (at 0 rs).name span
predicate_from (Some (predicate.Joined op)) rs span =
    p.joined op (at 0 rs).predicate (at 1 rs).predicate span
predicate_from (Some predicate.Not) rs span = p.negated (at 0 rs).predicate span

abbrev pub rate_from : Option RateHead → List Reading → Span → Rate
rate_from None rs span = r.eps span
rate_from (Some rate.Item) rs span = r.item (at 0 rs).predicate span
rate_from (Some (rate.Joined op)) rs span = r.joined op (at 0 rs).rate (at 1 rs).rate span
rate_from (Some rate.Star) rs span = r.star (at 0 rs).rate span

abbrev query_from : Option QueryHead → List Reading → Span → Query
query_from None rs span = q.name no_name
query_from (Some query.Atom) rs span = q.atom (at 0 rs).predicate (at 1 rs).expression span
query_from (Some query.Eps) rs span = q.eps (at 0 rs).number span
query_from (Some query.Or) rs span = q.or (at 0 rs).query (at 1 rs).query span
query_from (Some query.Split) rs span =
    q.split (at 0 rs).query (at 1 rs).query (at 2 rs).expression span
query_from (Some query.Iter) rs span =
    q.iter (at 0 rs).query (at 1 rs).number (at 2 rs).expression span
query_from (Some query.Combine) rs span =
    q.combine (at 0 rs).query (at 1 rs).query (at 2 rs).expression span
query_from (Some query.Apply) rs span = q.apply (at 0 rs).query (at 1 rs).expression span
query_from (Some query.Compose) rs span = q.compose (at 0 rs).query (at 1 rs).query span
query_from (Some query.Collect) rs span =
    q.collect (at 0 rs).key (at 1 rs).predicate (at 2 rs).rate (at 3 rs).query span

-- a call as it is read
abbrev call_reading : List ℕ → List Reading → Span → Reading
call_reading head rs span = record (name_reading no_name) {
  key = key.Columns (all_names rs) span;
  comparison = comparison_from (head_in comparisons head (length rs)) rs span;
  expression = expression_from (head_in expressions head (length rs)) rs span;
  predicate = predicate_from (head_in predicates head (length rs)) rs span;
  rate = rate_from (head_in rates head (length rs)) rs span;
  query = query_from (head_in queries head (length rs)) rs span;
}

-- terms as they are read
abbrev pub readings : Terms → List Reading
readings none = []
readings (word bytes span rest) =
    name_reading (record { bytes = bytes; span = span }) ∷ readings rest
readings (number value span rest) =
    number_reading (record { value = value; span = span }) ∷ readings rest
readings (string bytes span rest) =
    text_reading (record { bytes = bytes; span = span }) ∷ readings rest
readings (call head arguments span rest) =
    call_reading head (readings arguments) span ∷ readings rest

-- the first of the terms reads as the tree, and the others are the rest
pub record Back {X : Type 0} (field : Reading → X) (tree : X) (terms rest : Terms) : Type 0 where
  pub reading : Reading
  pub is : readings terms ≡ reading ∷ readings rest
  pub says : field reading ≡ tree

-- a call reads as the tree, where its arguments are read so
pub call_back : {X : Type 0} (field : Reading → X) (tree : X) (head : List ℕ) (arguments : Terms)
    (span : Span) (rest : Terms) (rs : List Reading)
    → readings arguments ≡ rs → field (call_reading head rs span) ≡ tree
    → Back field tree (call head arguments span rest) rest
call_back field tree head arguments span rest rs are is = record {
  reading = call_reading head rs span;
  is = ap (λ (l : List Reading). call_reading head l span ∷ readings rest) are;
  says = is;
}

-- one argument, and others after it
pub before : {X : Type 0} (field : Reading → X) (tree : X) (terms rest : Terms) (rs : List Reading)
    → (back : Back field tree terms rest) → readings rest ≡ rs → readings terms ≡ back.reading ∷ rs
before field tree terms rest rs back others =
    back.is ∙ ap (λ (l : List Reading). back.reading ∷ l) others
