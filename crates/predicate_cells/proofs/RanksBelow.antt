-- Fields have a class and a cell below the counts of these.
use Rattle.std.proofs.Common.{ℕ, ◌+◌, ◌*◌, ◌<◌, ◌≤◌, Bool, true, false, cond, List, [], ◌∷◌, length}
use Rattle.std.proofs.Common.{ℤ, pos, mul_comm, mul-pos, arith}
use Rattle.std.specs.Prelude.{int_le}
use Rattle.std.specs.List.{list_any}
use Rattle.std.specs.Str.{bytes_eq}
use Rattle.std.proofs.lemmas.List.Sums.{count_by-le-length}
use Rattle.std.proofs.lemmas.Nat.{mul-add-lt}
use Rattle.value_ops.specs.declared.field.Field.{Field}
use Rattle.value_ops.specs.declared.field.Field.TheVariants as field
use Rattle.value_ops.specs.declared.scalar.Scalar.TheVariants as scalar
use Rattle.value_ops.specs.declared.value.Value.TheVariants as value
use Rattle.item_schema.specs.declared.column.Kind.{Kind}
use Rattle.item_schema.specs.declared.column.Kind.TheVariants.{Int, Fixed, Text, Number}
use Rattle.predicate_cells.specs.Ranks.{Ranks, count_by_kind, class_by_kind, count_in, class_in}
use Rattle.predicate_cells.specs.Ranks.{cells_in, cell_in, number_rank, text_rank}

module _ (starts : List ℤ) (texts : List (List ℕ)) where
  pub number_rank-le : (n : ℤ) → number_rank starts n ≤ length starts
  number_rank-le n = count_by-le-length (λ start. int_le start n) starts

  text_rank-le : (s : List ℕ) → text_rank texts s ≤ length texts
  text_rank-le s = by (list_any (bytes_eq s) texts) (count_by-le-length _ texts)
    where
      by : {m n : ℕ} (b : Bool) → m ≤ n → cond b m n ≤ n
      by true le = le
      by false le = omega arith

  -- a field's class is below the count of the classes
  pub rank_below : (kind : Kind) (f : Field)
      → class_by_kind kind starts texts f < count_by_kind kind starts texts
  rank_below Int (field.Int n) = omega (arith, number_rank-le n)
  rank_below (Fixed digits) (field.Int n) = omega (arith, number_rank-le n)
  rank_below Text (field.Text s) = omega (arith, text_rank-le s)
  rank_below Number (field.Val (value.Scalar (scalar.Number n))) = omega (arith, number_rank-le n)
  rank_below Number (field.Val (value.Scalar scalar.Overflow)) = omega arith
  rank_below Number (field.Val (value.Scalar scalar.DivZero)) = omega arith
  rank_below kind f = omega arith

-- some cell is there
pub cells_positive : (columns : List Ranks) → 0 < cells_in columns
cells_positive [] = omega arith
cells_positive (ranks ∷ others) =
    mul-pos (by (rank_below ranks.starts ranks.texts ranks.kind (field.Int (pos 0))))
    (cells_positive others)
  where
    by : {m n : ℕ} → m < n → 0 < n
    by lt = omega arith

-- a row and a column make a place
place_below : (class rest width count : ℕ) → class < count → rest < width
    → class * width + rest < count * width
place_below class rest width count lt below =
    omega (arith, mul_comm count width, mul-add-lt class width rest count lt below)

-- fields have a cell below the count
pub cell_in_below : (columns : List Ranks) (fields : List Field)
    → cell_in columns fields < cells_in columns
cell_in_below (ranks ∷ others) (f ∷ fields) =
    place_below (class_in ranks f) (cell_in others fields) (cells_in others) (count_in ranks)
    (rank_below ranks.starts ranks.texts ranks.kind f) (cell_in_below others fields)
cell_in_below columns fields = cells_positive columns
