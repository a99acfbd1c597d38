-- Items of one cell agree on every predicate that the cells are of.
use Rattle.std.proofs.Common.{◌≡◌, ℕ, zero, suc, ◌+◌, List, [], ◌∷◌, Some, subst, arith}
use Rattle.std.specs.List.{Contains}
use Rattle.std.proofs.lemmas.Nat.{same_from_place}
use Rattle.value_ops.specs.declared.field.Field.{Field}
use Rattle.value_ops.specs.declared.field.Field.TheVariants as field
use Rattle.value_ops.specs.declared.scalar.Scalar.{Scalar}
use Rattle.value_ops.specs.declared.scalar.Scalar.TheVariants as scalar
use Rattle.value_ops.specs.declared.value.Value.TheVariants as value
use Rattle.item_schema.specs.declared.column.Column.{Column}
use Rattle.item_schema.specs.declared.column.Kind.{Kind}
use Rattle.item_schema.specs.declared.column.Kind.TheVariants.{Int, Fixed, Text, Number, Table}
use Rattle.value_ops.specs.Types.{IsScalar}
use Rattle.item_schema.specs.Items.{IsFieldOf, IsItemOf}
use Rattle.predicate_cells.specs.Cells.{Partition, CellsDecide, cell_from}
use Rattle.predicate_cells.specs.Classes.{beginnings, named_texts, class_of, starts}
use Rattle.predicates.specs.Predicates.{Predicate}
use Rattle.predicates.specs.Truth.{number_of, text_of, number_in, text_in}
use Rattle.predicate_cells.proofs.Alike.{NumbersAlike, TextsAlike, holds_alike}
use Rattle.predicate_cells.proofs.AllMembers.{all_flat}
use Rattle.predicate_cells.proofs.CellsBelow.{cell_from_below}
use Rattle.predicate_cells.proofs.RanksBelow.{number_rank-le}
use Rattle.predicate_cells.proofs.SameClass.{numbers_agree, named_agree}

module _ (preds : List Predicate) (pred : Predicate) (one : Contains preds pred) where
  -- no test of the column distinguishes two fields
  abbrev Alike : ℕ → Field → Field → Type 0
  Alike column f g = NumbersAlike (beginnings column pred) (number_of (Some f)) (number_of (Some g))
      × TextsAlike (named_texts column pred) (text_of (Some f)) (text_of (Some g))

  -- scalars of one class are alike
  scalars_alike : (column : ℕ) (x y : Scalar) → IsScalar x → IsScalar y
      → class_of Number column preds (field.Val (value.Scalar x))
      ≡ class_of Number column preds (field.Val (value.Scalar y))
      → Alike column (field.Val (value.Scalar x)) (field.Val (value.Scalar y))
  scalars_alike column (scalar.Number x) (scalar.Number y) a b e =
      (all_flat _ (beginnings column) preds pred one (numbers_agree column preds x y a b e), tt)
  scalars_alike column (scalar.Number x) scalar.Overflow a b e =
      absurd (omega (arith, number_rank-le (starts column preds) [] x))
  scalars_alike column (scalar.Number x) scalar.DivZero a b e =
      absurd (omega (arith, number_rank-le (starts column preds) [] x))
  scalars_alike column scalar.Overflow (scalar.Number y) a b e =
      absurd (omega (arith, number_rank-le (starts column preds) [] y))
  scalars_alike column scalar.DivZero (scalar.Number y) a b e =
      absurd (omega (arith, number_rank-le (starts column preds) [] y))
  scalars_alike column scalar.Overflow scalar.Overflow a b e = (tt, tt)
  scalars_alike column scalar.Overflow scalar.DivZero a b e = (tt, tt)
  scalars_alike column scalar.DivZero scalar.Overflow a b e = (tt, tt)
  scalars_alike column scalar.DivZero scalar.DivZero a b e = (tt, tt)

  -- so are fields of one class
  fields_alike : (kind : Kind) (column : ℕ) (f g : Field) → IsFieldOf kind f → IsFieldOf kind g
      → class_of kind column preds f ≡ class_of kind column preds g → Alike column f g
  fields_alike Int column (field.Int x) (field.Int y) a b e =
      (all_flat _ (beginnings column) preds pred one (numbers_agree column preds x y a b e), tt)
  fields_alike (Fixed digits) column (field.Int x) (field.Int y) a b e =
      (all_flat _ (beginnings column) preds pred one (numbers_agree column preds x y a b e), tt)
  fields_alike Text column (field.Text s) (field.Text t) a b e =
      (tt, all_flat _ (named_texts column) preds pred one (named_agree column preds s t a b e))
  fields_alike Number column (field.Val (value.Scalar x)) (field.Val (value.Scalar y)) a b e =
      scalars_alike column x y a b e
  fields_alike Table column (field.Val (value.Table x)) (field.Val (value.Table y)) a b e = (tt, tt)
  fields_alike kind column f g a b e = absurd assumption

  -- one cell is of one class in the first column, and one cell in the others
  classes_alike : (at : ℕ) (c : Column) (cs : List Column) (f g : Field) (fs gs : List Field)
      → cell_from at (c ∷ cs) preds (f ∷ fs) ≡ cell_from at (c ∷ cs) preds (g ∷ gs)
      → (class_of c.kind at preds f ≡ class_of c.kind at preds g)
      × (cell_from (at + 1) cs preds fs ≡ cell_from (at + 1) cs preds gs)
  classes_alike at c cs f g fs gs e =
      same_from_place _ _ _ _ _ (cell_from_below preds (at + 1) cs fs)
      (cell_from_below preds (at + 1) cs gs) e

  -- and the fields of items of one cell, in each column
  items_alike : (at : ℕ) (columns : List Column) (x y : List Field) → IsItemOf columns x
      → IsItemOf columns y → cell_from at columns preds x ≡ cell_from at columns preds y
      → (k column : ℕ) → column ≡ at + k
      → NumbersAlike (beginnings column pred) (number_in x k) (number_in y k)
      × TextsAlike (named_texts column pred) (text_in x k) (text_in y k)
  items_alike at [] [] [] a b e k column is = (tt, tt)
  items_alike at (c ∷ cs) (f ∷ fs) (g ∷ gs) a b e zero column is =
      let same = classes_alike at c cs f g fs gs e in
      let first : at ≡ column = omega arith in
      subst (λ place. Alike place f g) first (fields_alike c.kind at f g a.0 b.0 same.0)
  items_alike at (c ∷ cs) (f ∷ fs) (g ∷ gs) a b e (suc k) column is =
      let same = classes_alike at c cs f g fs gs e in
      items_alike (at + 1) cs fs gs a.1 b.1 same.1 k column (omega arith)
  items_alike at columns x y a b e k column is = absurd assumption

-- items of one cell agree on every predicate
pub cells_decide : (cells : Partition) → CellsDecide cells
cells_decide cells pred x y one a b e =
    holds_alike pred x y (λ column. items_alike cells.preds pred one 0 cells.layout.columns x y a b
    e column column (omega arith))
