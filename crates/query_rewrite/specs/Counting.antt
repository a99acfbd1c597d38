-- For the prover. What the code finds out about expressions.
use Rattle.std.specs.Prelude.{ℕ, ◌+◌, max, Bool, true, false}
use Rattle.expressions.specs.declared.expr.Var.{Var}
use Rattle.expressions.specs.declared.expr.Var.TheVariants as var
use Rattle.expressions.specs.Expressions.{Expression, literal, read, unary, binary, choice, sum}
use Rattle.expressions.specs.Expressions.{count, most, least, entry, rec, part, Expressions, none}
use Rattle.expressions.specs.Expressions.{more}
use Rattle.query_rewrite.specs.declared.reading.Reading.{Reading}
use Rattle.query_rewrite.specs.declared.reading.Reading.TheVariants.{Never, Once, Otherwise}

-- how two expressions read the left value
abbrev pub both_read : Reading → Reading → Reading
both_read Never other = other
both_read Once Never = Once
both_read Once Once = Otherwise
both_read Once Otherwise = Otherwise
both_read Otherwise other = Otherwise

-- how a name that stands for a table or a record does
abbrev pub as_whole : Var → Reading
as_whole var.Left = Otherwise
as_whole var.Right = Never
as_whole (var.Field column) = Never

abbrev mutual
  -- how an expression reads it
  pub reading_of : Expression → Reading
  reading_of (literal number) = Never
  reading_of (read var.Left) = Once
  reading_of (read var.Right) = Never
  reading_of (read (var.Field column)) = Never
  reading_of (unary op inner) = reading_of inner
  reading_of (binary op first second) = both_read (reading_of first) (reading_of second)
  reading_of (choice test first second met other) =
      both_read (both_read (reading_of first) (reading_of second))
      (both_read (reading_of met) (reading_of other))
  reading_of (sum name) = as_whole name
  reading_of (count name) = as_whole name
  reading_of (most name first) = both_read (as_whole name) (reading_of first)
  reading_of (least name first) = both_read (as_whole name) (reading_of first)
  reading_of (entry name key other) = both_read (as_whole name) (reading_of other)
  reading_of (rec parts) = reading_of_all parts
  reading_of (part name place) = as_whole name

  -- how all of these do
  pub reading_of_all : Expressions → Reading
  reading_of_all none = Never
  reading_of_all (more first rest) = both_read (reading_of first) (reading_of_all rest)

-- once at the most, as an operand
abbrev pub is_read_once : Reading → Bool
is_read_once Never = true
is_read_once Once = true
is_read_once Otherwise = false

abbrev mutual
  -- the levels of an expression in which the left value has this many
  pub levels_with : ℕ → Expression → ℕ
  levels_with left (literal number) = 1
  levels_with left (read var.Left) = left
  levels_with left (read var.Right) = 1
  levels_with left (read (var.Field column)) = 1
  levels_with left (unary op inner) = levels_with left inner + 1
  levels_with left (binary op first second) =
      max (levels_with left first) (levels_with left second) + 1
  levels_with left (choice test first second met other) =
      max (max (levels_with left first) (levels_with left second) + 1)
      (max (levels_with left met) (levels_with left other)) + 1
  levels_with left (sum name) = 2
  levels_with left (count name) = 2
  levels_with left (most name first) = levels_with left first + 1
  levels_with left (least name first) = levels_with left first + 1
  levels_with left (entry name key other) = levels_with left other + 1
  levels_with left (rec parts) = most_with left parts + 1
  levels_with left (part name place) = 2

  -- the most levels of these
  pub most_with : ℕ → Expressions → ℕ
  most_with left none = 0
  most_with left (more first rest) = max (levels_with left first) (most_with left rest)
