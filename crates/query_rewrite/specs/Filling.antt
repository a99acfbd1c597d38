-- Statement. An expression with another for its left value, and how often it reads that value.
use Rattle.std.specs.Prelude.{ℕ, ◌+◌, Bool, true, false, ◌||◌}
use Rattle.expressions.specs.declared.expr.Var.{Var}
use Rattle.expressions.specs.declared.expr.Var.TheVariants as var
use Rattle.expressions.specs.Expressions.{Expression, literal, read, unary, binary, choice, sum}
use Rattle.expressions.specs.Expressions.{count, most, least, entry, rec, part, Expressions, none}
use Rattle.expressions.specs.Expressions.{more}

abbrev mutual
  -- the second expression, with the first one wherever it reads the left value
  pub filled : Expression → Expression → Expression
  filled inner (literal number) = literal number
  filled inner (read var.Left) = inner
  filled inner (read var.Right) = read var.Right
  filled inner (read (var.Field column)) = read (var.Field column)
  filled inner (unary op first) = unary op (filled inner first)
  filled inner (binary op first second) = binary op (filled inner first) (filled inner second)
  filled inner (choice test first second met other) =
      choice test (filled inner first) (filled inner second) (filled inner met) (filled inner other)
  filled inner (sum name) = sum name
  filled inner (count name) = count name
  filled inner (most name first) = most name (filled inner first)
  filled inner (least name first) = least name (filled inner first)
  filled inner (entry name key other) = entry name key (filled inner other)
  filled inner (rec parts) = rec (each_filled inner parts)
  filled inner (part name place) = part name place

  -- the same of each
  pub each_filled : Expression → Expressions → Expressions
  each_filled inner none = none
  each_filled inner (more first rest) = more (filled inner first) (each_filled inner rest)

-- the name is that of the left value
abbrev pub is_left : Var → Bool
is_left var.Left = true
is_left _ = false

abbrev mutual
  -- how often the left value is read as an operand
  pub reads_of : Expression → ℕ
  reads_of (literal number) = 0
  reads_of (read var.Left) = 1
  reads_of (read var.Right) = 0
  reads_of (read (var.Field column)) = 0
  reads_of (unary op first) = reads_of first
  reads_of (binary op first second) = reads_of first + reads_of second
  reads_of (choice test first second met other) =
      (reads_of first + reads_of second) + (reads_of met + reads_of other)
  reads_of (sum name) = 0
  reads_of (count name) = 0
  reads_of (most name first) = reads_of first
  reads_of (least name first) = reads_of first
  reads_of (entry name key other) = reads_of other
  reads_of (rec parts) = reads_of_all parts
  reads_of (part name place) = 0

  -- and in all of these
  pub reads_of_all : Expressions → ℕ
  reads_of_all none = 0
  reads_of_all (more first rest) = reads_of first + reads_of_all rest

abbrev mutual
  -- the left value is the table of a table form or the record of a part, where a name has to stand
  pub names_left : Expression → Bool
  names_left (literal number) = false
  names_left (read name) = false
  names_left (unary op first) = names_left first
  names_left (binary op first second) = names_left first || names_left second
  names_left (choice test first second met other) =
      (names_left first || names_left second) || (names_left met || names_left other)
  names_left (sum name) = is_left name
  names_left (count name) = is_left name
  names_left (most name first) = is_left name || names_left first
  names_left (least name first) = is_left name || names_left first
  names_left (entry name key other) = is_left name || names_left other
  names_left (rec parts) = any_names_left parts
  names_left (part name place) = is_left name

  -- and in one of these
  pub any_names_left : Expressions → Bool
  any_names_left none = false
  any_names_left (more first rest) = names_left first || any_names_left rest
