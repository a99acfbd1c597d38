-- Statement. Predicates over the columns of a stream: their names are resolved to columns.
use Rattle.std.specs.Prelude.{ℕ, ℤ, List, Option, None, Some, option_map}
use Rattle.item_schema.specs.declared.column.Column.{Column}
use Rattle.predicates.specs.Predicates as plain
use Rattle.predicates.specs.Predicates.{eq, ne, lt, le, gt, ge, eq_text, ne_text, conjunction}
use Rattle.predicates.specs.Predicates.{disjunction, negation}
use Rattle.query_syntax.specs.Predicates.{Predicate, any, equality, order, between, is_num, joined}
use Rattle.query_syntax.specs.Predicates.{negated}
use Rattle.query_syntax.specs.declared.leaf.Literal.{Literal}
use Rattle.query_syntax.specs.declared.leaf.Literal.TheVariants.{Number, Text}
use Rattle.query_syntax.specs.declared.operator.Connective.{Connective}
use Rattle.query_syntax.specs.declared.operator.Connective.TheVariants.{And, Or}
use Rattle.query_syntax.specs.declared.operator.Equality.{Equality}
use Rattle.query_syntax.specs.declared.operator.Equality.TheVariants.{Eq, Ne}
use Rattle.query_syntax.specs.declared.operator.Order.{Order}
use Rattle.query_syntax.specs.declared.operator.Order.TheVariants.{Lt, Le, Gt, Ge}
use Rattle.query_resolver.specs.Names.{column_named}

-- a test whether a column equals a literal, or does not
abbrev pub equality_test : Equality → Literal → ℕ → plain.Predicate
equality_test Eq (Number literal) column = eq column literal.value
equality_test Ne (Number literal) column = ne column literal.value
equality_test Eq (Text literal) column = eq_text column literal.bytes
equality_test Ne (Text literal) column = ne_text column literal.bytes

-- a test whether a column is less or greater than a number
abbrev pub order_test : Order → ℤ → ℕ → plain.Predicate
order_test Lt bound column = lt column bound
order_test Le bound column = le column bound
order_test Gt bound column = gt column bound
order_test Ge bound column = ge column bound

-- two predicates joined by `and` or `or`
abbrev pub joined_by : Connective → plain.Predicate → plain.Predicate → plain.Predicate
joined_by And left right = conjunction left right
joined_by Or left right = disjunction left right

-- the same, if there are both
abbrev pub both : Connective → Option plain.Predicate → Option plain.Predicate
    → Option plain.Predicate
both connective (Some left) (Some right) = Some (joined_by connective left right)
both connective _ _ = None

-- the predicate over these columns, if each name in it is a column's
abbrev pub resolved_over : List Column → Predicate → Option plain.Predicate
resolved_over columns (any span) = Some plain.any
resolved_over columns (equality operator column literal span) =
    option_map (equality_test operator literal) (column_named columns column.bytes)
resolved_over columns (order operator column bound span) =
    option_map (order_test operator bound.value) (column_named columns column.bytes)
resolved_over columns (between column low high span) =
    option_map (λ c. plain.between c low.value high.value) (column_named columns column.bytes)
resolved_over columns (is_num column span) =
    option_map plain.is_num (column_named columns column.bytes)
resolved_over columns (joined connective left right span) =
    both connective (resolved_over columns left) (resolved_over columns right)
resolved_over columns (negated operand span) = option_map negation (resolved_over columns operand)
