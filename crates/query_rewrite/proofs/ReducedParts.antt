-- What is reduced is so at each part, and has no more levels.
use Rattle.std.proofs.Common.{◌≡◌, ◌+◌, ◌≤◌, Bool, true, false, max, refl, arith}
use Rattle.std.specs.Prelude.{if◌then◌else◌}
use Rattle.language_base.specs.Comparisons.{compares}
use Rattle.language_base.specs.declared.binary.BinaryOp.{BinaryOp}
use Rattle.language_base.specs.declared.compare.Compare.{Compare}
use Rattle.language_base.specs.declared.unary.UnaryOp.{UnaryOp}
use Rattle.value_ops.specs.declared.scalar.Scalar.{Scalar}
use Rattle.value_ops.specs.declared.scalar.Scalar.TheVariants.{Number, Overflow, DivZero}
use Rattle.expressions.specs.Expressions.{Expression, literal, read, unary, binary, choice, sum}
use Rattle.expressions.specs.Expressions.{count, most, least, entry, rec, part, Expressions, none}
use Rattle.expressions.specs.Expressions.{more}
use Rattle.value_ops.specs.Operators.{binary_of, unary_of}
use Rattle.query_rewrite.specs.Levels.{levels_of, most_levels}
use Rattle.query_rewrite.specs.Reducing.{literal_or, unary_reduced, binary_reduced, choice_reduced}
use Rattle.query_rewrite.specs.Reducing.{reduced, each_reduced, is_number, IsReduced, AreReduced}

-- Each part is reduced.

literal_is : (s : Scalar) (e : Expression) → (is_number s ≡ false → IsReduced e)
    → IsReduced (literal_or s e)
literal_is (Number number) e is = tt
literal_is Overflow e is = is refl
literal_is DivZero e is = is refl

unary_is : (op : UnaryOp) (e : Expression) → IsReduced e → IsReduced (unary_reduced op e)
unary_is op (literal number) is =
    literal_is (unary_of op (Number number)) (unary op (literal number)) (λ known. (known, tt))
unary_is op _ is = (refl, is)

binary_is : (op : BinaryOp) (a b : Expression) → IsReduced a → IsReduced b
    → IsReduced (binary_reduced op a b)
binary_is op (literal x) (literal y) first second =
    literal_is (binary_of op (Number x) (Number y)) (binary op (literal x) (literal y))
    (λ known. (known, tt, tt))
binary_is op _ _ first second = (refl, first, second)

either_is : (b : Bool) (met other : Expression) → IsReduced met → IsReduced other
    → IsReduced (if b then met else other)
either_is true met other first second = first
either_is false met other first second = second

choice_is : (test : Compare) (a b met other : Expression) → IsReduced a → IsReduced b
    → IsReduced met → IsReduced other → IsReduced (choice_reduced test a b met other)
choice_is test (literal x) (literal y) met other p q r s =
    either_is (compares test x y) met other r s
choice_is test _ _ met other p q r s = (refl, p, q, r, s)

mutual
  pub reduced_is : (e : Expression) → IsReduced (reduced e)
  reduced_is (literal number) = tt
  reduced_is (read name) = tt
  reduced_is (unary op inner) = unary_is op (reduced inner) (reduced_is inner)
  reduced_is (binary op first second) =
      binary_is op (reduced first) (reduced second) (reduced_is first) (reduced_is second)
  reduced_is (choice test first second met other) =
      choice_is test (reduced first) (reduced second) (reduced met) (reduced other)
      (reduced_is first) (reduced_is second) (reduced_is met) (reduced_is other)
  reduced_is (sum name) = tt
  reduced_is (count name) = tt
  reduced_is (most name first) = reduced_is first
  reduced_is (least name first) = reduced_is first
  reduced_is (entry name key other) = reduced_is other
  reduced_is (rec parts) = each_is parts
  reduced_is (part name place) = tt

  each_is : (parts : Expressions) → AreReduced (each_reduced parts)
  each_is none = tt
  each_is (more first rest) = (reduced_is first, each_is rest)

-- There are no more levels.

some_level : (e : Expression) → 1 ≤ levels_of e
some_level (literal number) = omega arith
some_level (read name) = omega arith
some_level (unary op inner) = omega arith
some_level (binary op first second) = omega arith
some_level (choice test first second met other) = omega arith
some_level (sum name) = omega arith
some_level (count name) = omega arith
some_level (most name first) = omega arith
some_level (least name first) = omega arith
some_level (entry name key other) = omega arith
some_level (rec parts) = omega arith
some_level (part name place) = omega arith

literal_levels : (s : Scalar) (e : Expression) → levels_of (literal_or s e) ≤ levels_of e
literal_levels (Number number) e = some_level e
literal_levels Overflow e = omega arith
literal_levels DivZero e = omega arith

unary_levels : (op : UnaryOp) (e : Expression) → levels_of (unary_reduced op e) ≤ levels_of e + 1
unary_levels op (literal number) =
    literal_levels (unary_of op (Number number)) (unary op (literal number))
unary_levels op _ = omega arith

binary_levels : (op : BinaryOp) (a b : Expression)
    → levels_of (binary_reduced op a b) ≤ max (levels_of a) (levels_of b) + 1
binary_levels op (literal x) (literal y) =
    literal_levels (binary_of op (Number x) (Number y)) (binary op (literal x) (literal y))
binary_levels op _ _ = omega arith

either_levels : (b : Bool) (met other : Expression)
    → levels_of (if b then met else other) ≤ max (levels_of met) (levels_of other)
either_levels true met other = omega arith
either_levels false met other = omega arith

choice_levels : (test : Compare) (a b met other : Expression)
    → levels_of (choice_reduced test a b met other)
    ≤ max (max (levels_of a) (levels_of b) + 1) (max (levels_of met) (levels_of other)) + 1
choice_levels test (literal x) (literal y) met other =
    omega (arith, either_levels (compares test x y) met other)
choice_levels test _ _ met other = omega arith

mutual
  pub levels_reduced : (e : Expression) → levels_of (reduced e) ≤ levels_of e
  levels_reduced (literal number) = omega arith
  levels_reduced (read name) = omega arith
  levels_reduced (unary op inner) =
      omega (arith, unary_levels op (reduced inner), levels_reduced inner)
  levels_reduced (binary op first second) =
      omega (
        arith,
        binary_levels op (reduced first) (reduced second),
        levels_reduced first,
        levels_reduced second,
      )
  levels_reduced (choice test first second met other) =
      omega (
        arith,
        choice_levels test (reduced first) (reduced second) (reduced met) (reduced other),
        levels_reduced first,
        levels_reduced second,
        levels_reduced met,
        levels_reduced other,
      )
  levels_reduced (sum name) = omega arith
  levels_reduced (count name) = omega arith
  levels_reduced (most name first) = omega (arith, levels_reduced first)
  levels_reduced (least name first) = omega (arith, levels_reduced first)
  levels_reduced (entry name key other) = omega (arith, levels_reduced other)
  levels_reduced (rec parts) = omega (arith, most_reduced parts)
  levels_reduced (part name place) = omega arith

  most_reduced : (parts : Expressions) → most_levels (each_reduced parts) ≤ most_levels parts
  most_reduced none = omega arith
  most_reduced (more first rest) = omega (arith, levels_reduced first, most_reduced rest)
