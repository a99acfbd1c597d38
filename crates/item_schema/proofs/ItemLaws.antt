-- Columns and the fields of an item go together.
use Rattle.std.proofs.Common.{◌≡◌, ◌↔◌, ℕ, List, [], ◌∷◌, length, drop, nat_eq, IsTrue, arith, ap}
use Rattle.std.proofs.Common.{refl, min, suc, eq-eqb}
use Rattle.std.proofs.lemmas.Bool.{eqb-true}
use Rattle.std.proofs.lemmas.List.{drop_all}
use Rattle.value_ops.specs.declared.field.Field.{Field}
use Rattle.item_schema.specs.declared.column.Column.{Column}
use Rattle.item_schema.specs.Items.{IsItemOf}

-- an item has as many fields as there are columns
pub IsItemOf-length : (columns : List Column) (fields : List Field) → IsItemOf columns fields
    → length columns ≡ length fields
IsItemOf-length [] [] item = refl
IsItemOf-length [] (field ∷ fields) item = absurd item
IsItemOf-length (column ∷ columns) [] item = absurd item
IsItemOf-length (column ∷ columns) (field ∷ fields) item =
    ap suc (IsItemOf-length columns fields item.1)

-- where each of the columns before the shorter list's end has its field, there are as many of both
pub item_by_length : (columns : List Column) (fields : List Field) (n : ℕ)
    → n ≡ min (length columns) (length fields)
    → (IsItemOf (drop n columns) (drop n fields) ↔ IsItemOf columns fields)
    → IsTrue (nat_eq (length columns) (length fields)) ↔ IsItemOf columns fields
item_by_length columns fields n count left = (
  λ same.
      let sizes : length columns ≡ length fields = eqb-true _ _ same in
      left.0 (rw (drop_all n columns (omega arith), drop_all n fields (omega arith)) tt),
  λ item. eq-eqb _ _ (IsItemOf-length columns fields item),
)
