-- Items that are plain in the columns up to one.
use Rattle.std.proofs.Common.{◌≡◌, ℕ, zero, suc, ◌+◌, ◌<◌, ◌≤◌, List, [], ◌∷◌, None, length, refl}
use Rattle.std.proofs.Common.{sym, ap, subst, ⊎_elim, ◌∙◌, arith}
use Rattle.std.specs.Prelude.{slice_get}
use Rattle.std.proofs.lemmas.Bool.{cases_lt}
use Rattle.value_ops.specs.declared.field.Field.{Field}
use Rattle.item_schema.specs.declared.column.Column.{Column}
use Rattle.item_schema.specs.Items.{IsItemOf}
use Rattle.predicate_cells.specs.Cells.{Partition, IsIn}
use Rattle.predicates.specs.Truth.{number_of, text_of}
use Rattle.plain_items.specs.Becoming.{BecomesPlain}
use Rattle.plain_items.specs.Plain.{IsPlain, IsPlainAt}
use Rattle.plain_items.proofs.Plainness.{plain_without}

-- after its columns an item has no field
none_past : (columns : List Column) (item : List Field) → IsItemOf columns item → (j : ℕ)
    → length columns ≤ j → slice_get item j ≡ None
none_past [] [] is j le = refl
none_past (c ∷ cs) (f ∷ fs) is zero le = absurd (omega (arith, le))
none_past (c ∷ cs) (f ∷ fs) is (suc j) le = none_past cs fs is.1 j (omega (arith, le))
none_past columns item is j le = absurd assumption

module _ (cells : Partition) (cell : ℕ) where
  -- an item is as plain in a column as one that has the same field there
  same_plain : (old new : List Field) (j : ℕ) → slice_get new j ≡ slice_get old j
      → IsPlainAt cells cell old j → IsPlainAt cells cell new j
  same_plain old new j same plain = record {
    number = λ other own its o a b. plain.number other own its o (sym (ap number_of same) ∙ a) b;
    text = λ other o b. ap text_of same ∙ plain.text other o b;
  }

  -- one column more
  pub plain_more : (old new : List Field) (column : ℕ) → IsIn cells cell old
      → ((j : ℕ) → j < column → IsPlainAt cells cell old j) → BecomesPlain cells column old new
      → (j : ℕ) → j < column + 1 → IsPlainAt cells cell new j
  plain_more old new column is_in plain becomes j lt = ⊎_elim before last (cases_lt j column)
    where
      before : j < column → IsPlainAt cells cell new j
      before less = same_plain old new j
          (becomes.others j (λ same. absurd (omega (arith, same, less)))) (plain j less)

      last : column ≤ j → IsPlainAt cells cell new j
      last more =
          let same : column ≡ j = omega arith in
          subst (λ at. IsPlainAt cells cell new at) same
          (subst (λ c. IsPlainAt cells c new column) is_in.1 becomes.plain)

  pub in_more : (old new : List Field) (column : ℕ) → IsIn cells cell old
      → BecomesPlain cells column old new → IsIn cells cell new
  in_more old new column is_in becomes = (becomes.cell.0, becomes.cell.1 ∙ is_in.1)

  -- and so all
  pub plain_all : (item : List Field) (column : ℕ) → IsIn cells cell item
      → length cells.layout.columns ≤ column → ((j : ℕ) → j < column → IsPlainAt cells cell item j)
      → IsPlain cells cell item
  plain_all item column is_in all plain j = ⊎_elim (λ less. plain j less) past (cases_lt j column)
    where
      past : column ≤ j → IsPlainAt cells cell item j
      past more =
          let none = none_past cells.layout.columns item is_in.0 j (omega (arith, all, more)) in
          plain_without cells cell item j is_in (ap number_of none) (ap text_of none)
