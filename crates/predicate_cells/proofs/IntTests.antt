-- Each test of a number by the numbers that are at most it.
use Rattle.std.proofs.Common.{◌≡◌, not, ◌&&◌, ℤ, int_eq, arith}
use Rattle.std.specs.Prelude.{int_lt, int_le}
use Rattle.std.proofs.lemmas.Int.{ints}
use Rattle.predicate_cells.specs.Classes.{next}

module _ (x n : ℤ) where
  pub int_eq_by_le : int_eq x n ≡ (int_le n x && not (int_le (next n) x))
  int_eq_by_le = grind (arith, ints)

  pub int_lt_by_le : int_lt x n ≡ not (int_le n x)
  int_lt_by_le = grind (arith, ints)

  pub int_le_by_le : int_le x n ≡ not (int_le (next n) x)
  int_le_by_le = grind (arith, ints)

  pub int_gt_by_le : int_lt n x ≡ int_le (next n) x
  int_gt_by_le = grind (arith, ints)
