-- Statement. The plainest item of a cell, for a person to read.
use Rattle.std.specs.Prelude.{◌≡◌, ◌≤◌, ℕ, ℤ, List, Some, codes, unsigned_abs}
use Rattle.value_ops.specs.declared.field.Field.{Field}
use Rattle.predicate_cells.specs.Cells.{Partition, IsIn}
use Rattle.predicates.specs.Truth.{number_in, text_in}

-- the text that is shown if the cell does not need a certain one
abbrev pub plain_text : List ℕ
plain_text = codes "other"

-- no item of the cell has a number in the column that is nearer to zero, and the text in the column
-- is the plain one if some item of the cell has it there
pub record IsPlainAt (cells : Partition) (cell : ℕ) (item : List Field) (column : ℕ) : Type 0 where
  pub number : (other : List Field) (own its : ℤ) → IsIn cells cell other
      → number_in item column ≡ Some own → number_in other column ≡ Some its
      → unsigned_abs own ≤ unsigned_abs its
  pub text : (other : List Field) → IsIn cells cell other
      → text_in other column ≡ Some plain_text → text_in item column ≡ Some plain_text

-- the item is plain in each column
abbrev pub IsPlain : Partition → ℕ → List Field → Type 0
IsPlain cells cell item = (column : ℕ) → IsPlainAt cells cell item column
