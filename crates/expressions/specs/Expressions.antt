-- Statement. Expressions, without where they lie in memory.
use Rattle.std.specs.Prelude.{ℤ, ℕ, ◌+◌, List, [], ◌∷◌, map}
use Rattle.expressions.specs.declared.expr.Expr.{Expr, Row_of-Expr, end_of-Expr, more_of-Expr}
use Rattle.expressions.specs.declared.expr.Expr.TheVariants.{Literal, Read, Unary', Binary', If'}
use Rattle.expressions.specs.declared.expr.Expr.TheVariants.{Sum}
use Rattle.expressions.specs.declared.expr.Expr.TheVariants.{Count, Most', Least', Get', Rec', Part}
use Rattle.expressions.specs.declared.expr.Var.{Var}
use Rattle.language_base.specs.declared.binary.BinaryOp.{BinaryOp}
use Rattle.language_base.specs.declared.compare.Compare.{Compare}
use Rattle.language_base.specs.declared.unary.UnaryOp.{UnaryOp}

mutual
  -- a number, what a name stands for, an operator on expressions, a choice by a comparison of the
  -- first two, a number that is made of a table, a record, or a part of a record, counted from 1
  pub data Expression : Type 0 where
    literal : ℤ → Expression
    read : Var → Expression
    unary : UnaryOp → Expression → Expression
    binary : BinaryOp → Expression → Expression → Expression
    choice : Compare → Expression → Expression → Expression → Expression → Expression
    sum : Var → Expression
    count : Var → Expression
    most : Var → Expression → Expression
    least : Var → Expression → Expression
    entry : Var → List ℕ → Expression → Expression
    rec : Expressions → Expression
    part : Var → ℕ → Expression

  -- expressions one after the other
  pub data Expressions : Type 0 where
    none : Expressions
    more : Expression → Expressions → Expressions

-- how many there are
abbrev pub count_of : Expressions → ℕ
count_of none = 0
count_of (more first rest) = count_of rest + 1

-- those of a list
abbrev pub all_of : List Expression → Expressions
all_of [] = none
all_of (first ∷ rest) = more first (all_of rest)

abbrev mutual
  -- an expression in memory as a plain one
  pub plain_of : Expr → Expression
  plain_of (Literal number) = literal number
  plain_of (Read name) = read name
  plain_of (Unary' op p inner) = unary op (plain_of inner)
  plain_of (Binary' op p first q second) = binary op (plain_of first) (plain_of second)
  plain_of (If' test p first q second r met s other) =
      choice test (plain_of first) (plain_of second) (plain_of met) (plain_of other)
  plain_of (Sum name) = sum name
  plain_of (Count name) = count name
  plain_of (Most' name p first) = most name (plain_of first)
  plain_of (Least' name p first) = least name (plain_of first)
  plain_of (Get' name key p other) = entry name key (plain_of other)
  plain_of (Rec' shape parts) = rec (row_parts parts)
  plain_of (Part name place) = part name place

  -- the same of those of a record
  pub row_parts : {n : _} → Row_of-Expr n → Expressions
  row_parts end_of-Expr = none
  row_parts (more_of-Expr first rest) = more (plain_of first) (row_parts rest)

-- the same of those of a list
abbrev pub plain_parts : List Expr → Expressions
plain_parts exprs = all_of (map plain_of exprs)
