-- Statement. Expressions, predicates and rates as they are written, wherever they stand.
use Rattle.std.specs.Prelude.{ℕ, ℤ, List, [], ◌∷◌, map}
use Rattle.predicates.specs.Predicates as test
use Rattle.predicates.specs.Predicates.{Predicate}
use Rattle.rate_expr.specs.Rates as rate
use Rattle.rate_expr.specs.Rates.{Regex}
use Rattle.expressions.specs.Expressions as value
use Rattle.expressions.specs.Expressions.{Expression, Expressions}
use Rattle.query_parser.specs.Printing.{nowhere}
use Rattle.query_syntax.specs.Expressions as e
use Rattle.query_syntax.specs.Predicates as p
use Rattle.query_syntax.specs.Rates as r
use Rattle.query_syntax.specs.declared.key.Key.{Key}
use Rattle.query_syntax.specs.declared.key.Key.TheVariants as key
use Rattle.query_syntax.specs.declared.leaf.Literal.TheVariants as literal
use Rattle.query_syntax.specs.declared.leaf.Number.{Number}
use Rattle.query_syntax.specs.declared.operator.Connective.TheVariants as connective
use Rattle.query_syntax.specs.declared.operator.Equality.TheVariants as equality
use Rattle.query_syntax.specs.declared.operator.Extremum.TheVariants as extremum
use Rattle.query_syntax.specs.declared.operator.Join.TheVariants as join
use Rattle.query_syntax.specs.declared.operator.Order.TheVariants as order
use Rattle.query_syntax.specs.declared.operator.Summary.TheVariants as summary
use Rattle.query_text.specs.Names.{Naming, field_name, named, var_name}

-- a number
abbrev pub numbered : ℤ → Number
numbered number = record { value = number; span = nowhere }

abbrev mutual
  -- an expression over these names
  pub expression_tree : Naming → Expression → e.Expression
  expression_tree naming (value.literal number) = e.number (numbered number)
  expression_tree naming (value.read name) = e.name (named (var_name naming name))
  expression_tree naming (value.unary op inner) =
      e.unary op (expression_tree naming inner) nowhere
  expression_tree naming (value.binary op first second) =
      e.binary op (expression_tree naming first) (expression_tree naming second) nowhere
  expression_tree naming (value.choice compare first second met other) =
      e.choice compare (expression_tree naming first) (expression_tree naming second) nowhere
      (expression_tree naming met) (expression_tree naming other) nowhere
  expression_tree naming (value.sum name) =
      e.summary summary.Sum (named (var_name naming name)) nowhere
  expression_tree naming (value.count name) =
      e.summary summary.Count (named (var_name naming name)) nowhere
  expression_tree naming (value.most name first) =
      e.extremum extremum.Max (named (var_name naming name)) (expression_tree naming first) nowhere
  expression_tree naming (value.least name first) =
      e.extremum extremum.Min (named (var_name naming name)) (expression_tree naming first) nowhere
  expression_tree naming (value.entry name text other) =
      e.get (named (var_name naming name)) (record { bytes = text; span = nowhere })
      (expression_tree naming other) nowhere
  expression_tree naming (value.rec parts) = e.rec (expression_trees naming parts) nowhere
  expression_tree naming (value.part name place) =
      e.part (named (var_name naming name)) (record { value = place; span = nowhere }) nowhere

  -- expressions, one after the other
  pub expression_trees : Naming → Expressions → e.Expressions
  expression_trees naming value.none = e.none
  expression_trees naming (value.more first rest) =
      e.more (expression_tree naming first) (expression_trees naming rest)

-- a predicate over these names
abbrev pub predicate_tree : Naming → Predicate → p.Predicate
predicate_tree naming test.any = p.any nowhere
predicate_tree naming (test.eq column number) =
    p.equality equality.Eq (named (field_name naming column)) (literal.Number (numbered number))
    nowhere
predicate_tree naming (test.ne column number) =
    p.equality equality.Ne (named (field_name naming column)) (literal.Number (numbered number))
    nowhere
predicate_tree naming (test.lt column number) =
    p.order order.Lt (named (field_name naming column)) (numbered number) nowhere
predicate_tree naming (test.le column number) =
    p.order order.Le (named (field_name naming column)) (numbered number) nowhere
predicate_tree naming (test.gt column number) =
    p.order order.Gt (named (field_name naming column)) (numbered number) nowhere
predicate_tree naming (test.ge column number) =
    p.order order.Ge (named (field_name naming column)) (numbered number) nowhere
predicate_tree naming (test.between column low high) =
    p.between (named (field_name naming column)) (numbered low) (numbered high) nowhere
predicate_tree naming (test.eq_text column text) =
    p.equality equality.Eq (named (field_name naming column))
    (literal.Text (record { bytes = text; span = nowhere })) nowhere
predicate_tree naming (test.ne_text column text) =
    p.equality equality.Ne (named (field_name naming column))
    (literal.Text (record { bytes = text; span = nowhere })) nowhere
predicate_tree naming (test.is_num column) =
    p.is_num (named (field_name naming column)) nowhere
predicate_tree naming (test.conjunction left right) =
    p.joined connective.And (predicate_tree naming left) (predicate_tree naming right) nowhere
predicate_tree naming (test.disjunction left right) =
    p.joined connective.Or (predicate_tree naming left) (predicate_tree naming right) nowhere
predicate_tree naming (test.negation inner) = p.negated (predicate_tree naming inner) nowhere

-- a rate over these names
abbrev pub rate_tree : Naming → Regex → r.Rate
rate_tree naming rate.empty = r.eps nowhere
rate_tree naming (rate.one pred) = r.item (predicate_tree naming pred) nowhere
rate_tree naming (rate.sequence left right) =
    r.joined join.Seq (rate_tree naming left) (rate_tree naming right) nowhere
rate_tree naming (rate.choice left right) =
    r.joined join.Alt (rate_tree naming left) (rate_tree naming right) nowhere
rate_tree naming (rate.star inner) = r.star (rate_tree naming inner) nowhere

-- the columns of a key: one by its name, and several as `key`
abbrev pub key_tree : Naming → List ℕ → Key
key_tree naming (column ∷ []) = key.Column (named (field_name naming column))
key_tree naming chosen =
    key.Columns (map (λ column. named (field_name naming column)) chosen) nowhere
