-- For the prover. Items that become plain, column by column.
use Rattle.std.specs.Prelude.{◌≡◌, ◌≢◌, ◌<◌, ◌≤◌, ℕ, ℤ, pos, negsuc, neg_ℤ, Bool, true, false, List}
use Rattle.std.specs.Prelude.{slice_get, slice_set, unsigned_abs}
use Rattle.value_ops.specs.declared.field.Field.{Field}
use Rattle.value_ops.specs.declared.field.Field.TheVariants as field
use Rattle.value_ops.specs.declared.scalar.Scalar.TheVariants as scalar
use Rattle.value_ops.specs.declared.value.Value.TheVariants as value
use Rattle.predicate_cells.specs.Cells.{Partition, IsIn, cell_of}
use Rattle.plain_items.specs.Plain.{IsPlainAt}
use Rattle.plain_items.specs.declared.replacement.Form.{Form}
use Rattle.plain_items.specs.declared.replacement.Form.TheVariants as form

-- a number as a field
abbrev pub number_field : Form → ℤ → Field
number_field form.Whole number = field.Int number
number_field form.Value number = field.Val (value.Scalar (scalar.Number number))

-- the number of this magnitude that has the sign of another
abbrev pub with_sign : ℤ → ℕ → ℤ
with_sign (pos number) magnitude = pos magnitude
with_sign (negsuc number) magnitude = neg_ℤ (pos magnitude)

-- with this field in the column, the item stays in its cell
abbrev pub StaysWith : Partition → List Field → ℕ → Field → Type 0
StaysWith cells item column field = IsIn cells (cell_of cells item) (slice_set item column field)

-- the field is put into the column exactly if the item stays in its cell with it
abbrev pub IsPut : Partition → List Field → ℕ → Field → List Field → Bool → Type 0
IsPut cells old column field new true =
    (new ≡ slice_set old column field) × StaysWith cells old column field
IsPut cells old column field new false = (new ≡ old) × (StaysWith cells old column field → ⊥)

-- the item stays in its cell, is plain in the column, and keeps its other fields
pub record BecomesPlain (cells : Partition) (column : ℕ) (old new : List Field) : Type 0 where
  pub cell : IsIn cells (cell_of cells old) new
  pub plain : IsPlainAt cells (cell_of cells old) new column
  pub others : (other : ℕ) → other ≢ column → slice_get new other ≡ slice_get old other

-- the interval that is being halved: the column has the number of the magnitude `inside`, and the
-- cell does not allow that of the magnitude `outside`
pub record AreHalves (cells : Partition) (old : List Field) (column : ℕ) (form : Form) (number : ℤ)
    (outside inside : ℕ) (new : List Field) : Type 0 where
  pub apart : outside < inside
  pub from_own : inside ≤ unsigned_abs number
  pub has : new ≡ slice_set old column (number_field form (with_sign number inside))
  pub stays : StaysWith cells old column (number_field form (with_sign number inside))
  pub none : StaysWith cells old column (number_field form (with_sign number outside)) → ⊥
