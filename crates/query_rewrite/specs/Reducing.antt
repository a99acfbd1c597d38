-- Statement. Expressions in which what is known before any item has been computed: operators of
-- literals, and choices by a comparison of literals.
use Rattle.std.specs.Prelude.{◌≡◌, Bool, true, false, if◌then◌else◌}
use Rattle.language_base.specs.Comparisons.{compares}
use Rattle.language_base.specs.declared.binary.BinaryOp.{BinaryOp}
use Rattle.language_base.specs.declared.compare.Compare.{Compare}
use Rattle.language_base.specs.declared.unary.UnaryOp.{UnaryOp}
use Rattle.value_ops.specs.declared.scalar.Scalar.{Scalar}
use Rattle.value_ops.specs.declared.scalar.Scalar.TheVariants.{Number, Overflow, DivZero}
use Rattle.expressions.specs.Expressions.{Expression, literal, read, unary, binary, choice, sum}
use Rattle.expressions.specs.Expressions.{count, most, least, entry, rec, part, Expressions, none}
use Rattle.expressions.specs.Expressions.{more}
use Rattle.value_ops.specs.Operators.{binary_of, unary_of}

-- the scalar as a literal, and what it was computed from where it is no number
abbrev pub literal_or : Scalar → Expression → Expression
literal_or (Number number) computed = literal number
literal_or Overflow computed = computed
literal_or DivZero computed = computed

-- an operator on an operand, computed if that is a literal
abbrev pub unary_reduced : UnaryOp → Expression → Expression
unary_reduced op (literal number) =
    literal_or (unary_of op (Number number)) (unary op (literal number))
unary_reduced op inner = unary op inner

-- an operator on two operands, computed if they are literals
abbrev pub binary_reduced : BinaryOp → Expression → Expression → Expression
binary_reduced op (literal a) (literal b) =
    literal_or (binary_of op (Number a) (Number b)) (binary op (literal a) (literal b))
binary_reduced op first second = binary op first second

-- a choice, and the branch that it takes if literals are compared
abbrev pub choice_reduced : Compare → Expression → Expression → Expression → Expression → Expression
choice_reduced test (literal a) (literal b) met other = if compares test a b then met else other
choice_reduced test first second met other = choice test first second met other

abbrev mutual
  -- the expression with all such computed, from the inside out
  pub reduced : Expression → Expression
  reduced (literal number) = literal number
  reduced (read name) = read name
  reduced (unary op inner) = unary_reduced op (reduced inner)
  reduced (binary op first second) = binary_reduced op (reduced first) (reduced second)
  reduced (choice test first second met other) =
      choice_reduced test (reduced first) (reduced second) (reduced met) (reduced other)
  reduced (sum name) = sum name
  reduced (count name) = count name
  reduced (most name first) = most name (reduced first)
  reduced (least name first) = least name (reduced first)
  reduced (entry name key other) = entry name key (reduced other)
  reduced (rec parts) = rec (each_reduced parts)
  reduced (part name place) = part name place

  -- the same of each
  pub each_reduced : Expressions → Expressions
  each_reduced none = none
  each_reduced (more first rest) = more (reduced first) (each_reduced rest)

-- the scalar is a number
abbrev pub is_number : Scalar → Bool
is_number (Number number) = true
is_number Overflow = false
is_number DivZero = false

-- the expression itself is known before any item: an operator of literals whose value is a number,
-- or a choice by literals
abbrev pub is_known : Expression → Bool
is_known (unary op (literal number)) = is_number (unary_of op (Number number))
is_known (binary op (literal a) (literal b)) = is_number (binary_of op (Number a) (Number b))
is_known (choice test (literal a) (literal b) met other) = true
is_known _ = false

abbrev mutual
  -- neither the expression nor a part of it is
  pub IsReduced : Expression → Type 0
  IsReduced (literal number) = Unit {0}
  IsReduced (read name) = Unit {0}
  IsReduced (unary op inner) = (is_known (unary op inner) ≡ false) × IsReduced inner
  IsReduced (binary op first second) =
      (is_known (binary op first second) ≡ false) × IsReduced first × IsReduced second
  IsReduced (choice test first second met other) =
      (is_known (choice test first second met other) ≡ false)
      × IsReduced first × IsReduced second × IsReduced met × IsReduced other
  IsReduced (sum name) = Unit {0}
  IsReduced (count name) = Unit {0}
  IsReduced (most name first) = IsReduced first
  IsReduced (least name first) = IsReduced first
  IsReduced (entry name key other) = IsReduced other
  IsReduced (rec parts) = AreReduced parts
  IsReduced (part name place) = Unit {0}

  -- of all of these
  pub AreReduced : Expressions → Type 0
  AreReduced none = Unit {0}
  AreReduced (more first rest) = IsReduced first × AreReduced rest
