-- The levels that are counted are those of the expression that would be made.
use Rattle.std.proofs.Common.{◌≡◌, ◌≤◌, ◌-◌, ◌^◌, ℕ, min, Bool, true, false, refl}
use Rattle.std.proofs.Common.{arith}
use Rattle.std.specs.Prelude.{nat_le}
use Rattle.std.proofs.lemmas.Bool.{leb-true, le-leb, false_from_ne_true}
use Rattle.expressions.specs.declared.expr.Var.TheVariants as var
use Rattle.expressions.specs.Expressions.{Expression, literal, read, unary, binary, choice, sum}
use Rattle.expressions.specs.Expressions.{count, most, least, entry, rec, part, Expressions, none}
use Rattle.expressions.specs.Expressions.{more}
use Rattle.query_rewrite.specs.Counting.{levels_with, most_with}
use Rattle.query_rewrite.specs.Filling.{each_filled, filled}
use Rattle.query_rewrite.specs.Levels.{levels_of, max_levels, most_levels}

mutual
  -- where the left value has one level
  pub levels_alone : (e : Expression) → levels_with 1 e ≡ levels_of e
  levels_alone (literal number) = refl
  levels_alone (read var.Left) = refl
  levels_alone (read var.Right) = refl
  levels_alone (read (var.Field column)) = refl
  levels_alone (unary op inner) = omega (arith, levels_alone inner)
  levels_alone (binary op first second) = omega (arith, levels_alone first, levels_alone second)
  levels_alone (choice test first second met other) =
      omega (arith, levels_alone first, levels_alone second, levels_alone met, levels_alone other)
  levels_alone (sum name) = refl
  levels_alone (count name) = refl
  levels_alone (most name first) = omega (arith, levels_alone first)
  levels_alone (least name first) = omega (arith, levels_alone first)
  levels_alone (entry name key other) = omega (arith, levels_alone other)
  levels_alone (rec parts) = omega (arith, most_alone parts)
  levels_alone (part name place) = refl

  most_alone : (parts : Expressions) → most_with 1 parts ≡ most_levels parts
  most_alone none = refl
  most_alone (more first rest) = omega (arith, levels_alone first, most_alone rest)

-- where it has as many as an expression, up to a limit
module _ (limit left : ℕ) (e : Expression) (one : 1 ≤ limit) (is : left ≡ min (levels_of e) limit)
  where
    mutual
      levels_filled : (d : Expression)
          → min (levels_with left d) limit ≡ min (levels_of (filled e d)) limit
      levels_filled (literal number) = refl
      levels_filled (read var.Left) = omega (arith, is)
      levels_filled (read var.Right) = refl
      levels_filled (read (var.Field column)) = refl
      levels_filled (unary op inner) = omega (arith, levels_filled inner)
      levels_filled (binary op first second) =
          omega (arith, levels_filled first, levels_filled second)
      levels_filled (choice test first second met other) =
          omega (
            arith,
            levels_filled first,
            levels_filled second,
            levels_filled met,
            levels_filled other,
          )
      levels_filled (sum name) = refl
      levels_filled (count name) = refl
      levels_filled (most name first) = omega (arith, levels_filled first)
      levels_filled (least name first) = omega (arith, levels_filled first)
      levels_filled (entry name key other) = omega (arith, levels_filled other)
      levels_filled (rec parts) = omega (arith, most_filled parts)
      levels_filled (part name place) = refl

      most_filled : (parts : Expressions)
          → min (most_with left parts) limit ≡ min (most_levels (each_filled e parts)) limit
      most_filled none = refl
      most_filled (more first rest) = omega (arith, levels_filled first, most_filled rest)

same_test : (a b : ℕ) → (a ≤ max_levels → b ≤ max_levels) → (b ≤ max_levels → a ≤ max_levels)
    → nat_le a max_levels ≡ nat_le b max_levels
same_test a b there back = by (nat_le b max_levels) refl
  where
    by : (t : Bool) → nat_le b max_levels ≡ t → nat_le a max_levels ≡ t
    by true is = le-leb a max_levels (back (leb-true b max_levels is))
    by false is = false_from_ne_true (nat_le a max_levels) (λ holds.
        absurd (not_both is (le-leb b max_levels (there (leb-true a max_levels holds)))))
      where
        not_both : {x : Bool} → x ≡ false → x ≡ true → ⊥
        not_both first second = cc

-- so the test of the counted levels is that of the levels
pub levels_tested : (counted left : ℕ) (e d : Expression)
    → left ≡ min (levels_with 1 e) (2 ^ 32 - 1) → counted ≡ min (levels_with left d) (2 ^ 32 - 1)
    → nat_le counted 62 ≡ nat_le (levels_of (filled e d)) max_levels
levels_tested counted left e d left_is counted_is =
    let alone = levels_alone e in
    let filled_is =
    levels_filled (2 ^ 32 - 1) left e (omega arith) (omega (arith, left_is, alone)) d
    in
    same_test counted (levels_of (filled e d)) (λ few. omega (arith, counted_is, filled_is, few))
    (λ few. omega (arith, counted_is, filled_is, few))
