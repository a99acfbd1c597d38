-- Items of one cell with a field of one in another, or with a number between two.
use Rattle.std.proofs.Common.{◌≡◌, ℕ, zero, suc, ◌+◌, ◌≤◌, ℤ, true, List, [], ◌∷◌, Option, None}
use Rattle.std.proofs.Common.{Some, refl, sym, subst, ◌∙◌, w64, arith}
use Rattle.std.specs.Prelude.{FitsSigned, int_le, slice_get, slice_set}
use Rattle.std.proofs.lemmas.Option.{same_Some}
use Rattle.std.proofs.lemmas.Int.{ints}
use Rattle.std.proofs.lemmas.Nat.{same_from_place}
use Rattle.value_ops.specs.declared.field.Field.{Field}
use Rattle.item_schema.specs.declared.column.Column.{Column}
use Rattle.item_schema.specs.declared.column.Kind.{Kind}
use Rattle.item_schema.specs.declared.column.Kind.TheVariants.{Int, Fixed, Number}
use Rattle.item_schema.specs.Items.{IsFieldOf, IsItemOf}
use Rattle.predicate_cells.specs.Cells.{cell_from}
use Rattle.predicate_cells.specs.Classes.{class_of, number_class, starts}
use Rattle.predicates.specs.Predicates.{Predicate}
use Rattle.predicate_cells.proofs.CellsBelow.{cell_from_below}
use Rattle.predicate_cells.proofs.Counts.{count_by-le}
use Rattle.predicate_cells.proofs.SameClass.{at_most}
use Rattle.plain_items.specs.Becoming.{number_field}
use Rattle.plain_items.specs.declared.replacement.Form.{Form}
use Rattle.plain_items.specs.declared.replacement.Form.TheVariants as form

fits_between : (low mid high : ℤ) → FitsSigned w64 low → FitsSigned w64 high
    → int_le low mid ≡ true → int_le mid high ≡ true → FitsSigned w64 mid
fits_between low mid high f g le ge = grind (arith, ints)

module _ (preds : List Predicate) where
  class-le : (at : ℕ) (x y : ℤ) → int_le x y ≡ true
      → number_class at preds x ≤ number_class at preds y
  class-le at x y le = count_by-le _ _ (λ start. at_most start x y le) (starts at preds)

  class_between : (at : ℕ) (low mid high : ℤ) (class : ℕ) → int_le low mid ≡ true
      → int_le mid high ≡ true → number_class at preds low ≡ class
      → number_class at preds high ≡ class → number_class at preds mid ≡ class
  class_between at low mid high class le ge a b =
      omega (arith, class-le at low mid le, class-le at mid high ge)

  -- the field may stand in a column of the kind, and is of the class
  abbrev IsOfClass : Kind → ℕ → ℕ → Field → Type 0
  IsOfClass kind at class f = IsFieldOf kind f × (class_of kind at preds f ≡ class)

  -- so is each number between two that are
  field_between : (form : Form) (kind : Kind) (at : ℕ) (low mid high : ℤ) (class : ℕ)
      → int_le low mid ≡ true → int_le mid high ≡ true
      → IsOfClass kind at class (number_field form low)
      → IsOfClass kind at class (number_field form high)
      → IsOfClass kind at class (number_field form mid)
  field_between form.Whole Int at low mid high class le ge a b =
      (fits_between low mid high a.0 b.0 le ge, class_between at low mid high class le ge a.1 b.1)
  field_between form.Whole (Fixed digits) at low mid high class le ge a b =
      (fits_between low mid high a.0 b.0 le ge, class_between at low mid high class le ge a.1 b.1)
  field_between form.Value Number at low mid high class le ge a b =
      (fits_between low mid high a.0 b.0 le ge, class_between at low mid high class le ge a.1 b.1)
  field_between form kind at low mid high class le ge a b = absurd a.0

  -- the fields are those of an item of the cell
  abbrev IsOfCell : ℕ → List Column → ℕ → List Field → Type 0
  IsOfCell at columns cell item = IsItemOf columns item × (cell_from at columns preds item ≡ cell)

  -- fields of one cell are of one class in the first column, and of one cell in the others
  same_digits : (at : ℕ) (c : Column) (cs : List Column) (f g : Field) (fs gs : List Field)
      → cell_from at (c ∷ cs) preds (f ∷ fs) ≡ cell_from at (c ∷ cs) preds (g ∷ gs)
      → (class_of c.kind at preds f ≡ class_of c.kind at preds g)
      × (cell_from (at + 1) cs preds fs ≡ cell_from (at + 1) cs preds gs)
  same_digits at c cs f g fs gs is =
      same_from_place _ _ _ _ _ (cell_from_below preds (at + 1) cs fs)
      (cell_from_below preds (at + 1) cs gs) is

  -- an item of the cell stays in it with a field of another one
  pub mixed : (at : ℕ) (columns : List Column) (x y : List Field) (k : ℕ) (f : Field) (cell : ℕ)
      → IsOfCell at columns cell x → IsOfCell at columns cell y → slice_get y k ≡ Some f
      → IsOfCell at columns cell (slice_set x k f)
  mixed at [] [] [] k f cell a b is = a
  mixed at (c ∷ cs) (g ∷ x) (h ∷ y) zero f cell a b is =
      let same = same_digits at c cs g h x y (a.1 ∙ sym b.1) in
      subst (λ own. IsOfCell at (c ∷ cs) cell (own ∷ x)) (same_Some _ _ is)
      ((b.0.0, a.0.1), rw (← same.0) a.1)
  mixed at (c ∷ cs) (g ∷ x) (h ∷ y) (suc k) f cell a b is =
      let same = same_digits at c cs g h x y (a.1 ∙ sym b.1) in
      let rest = mixed (at + 1) cs x y k f _ (a.0.1, refl) (b.0.1, sym same.1) is in
      ((a.0.0, rest.0), rw rest.1 a.1)
  mixed at [] (g ∷ x) y k f cell a b is = absurd a.0
  mixed at [] [] (h ∷ y) k f cell a b is = absurd b.0
  mixed at (c ∷ cs) [] y k f cell a b is = absurd a.0
  mixed at (c ∷ cs) (g ∷ x) [] k f cell a b is = absurd b.0

  -- and with each number between two with which it does
  pub between : (form : Form) (at : ℕ) (columns : List Column) (x : List Field) (k : ℕ)
      (low mid high : ℤ) (cell : ℕ) → int_le low mid ≡ true → int_le mid high ≡ true
      → IsOfCell at columns cell (slice_set x k (number_field form low))
      → IsOfCell at columns cell (slice_set x k (number_field form high))
      → IsOfCell at columns cell (slice_set x k (number_field form mid))
  between form at [] [] k low mid high cell le ge a b = a
  between form at (c ∷ cs) (g ∷ x) zero low mid high cell le ge a b =
      let same = same_digits at c cs (number_field form low) (number_field form high) x x
      (a.1 ∙ sym b.1) in
      let own = field_between form c.kind at low mid high _ le ge (a.0.0, refl)
      (b.0.0, sym same.0) in
      ((own.0, a.0.1), rw own.1 a.1)
  between form at (c ∷ cs) (g ∷ x) (suc k) low mid high cell le ge a b =
      let same = same_digits at c cs g g (slice_set x k (number_field form low))
      (slice_set x k (number_field form high)) (a.1 ∙ sym b.1) in
      let rest = between form (at + 1) cs x k low mid high _ le ge (a.0.1, refl)
      (b.0.1, sym same.1) in
      ((a.0.0, rest.0), rw rest.1 a.1)
  between form at [] (g ∷ x) zero low mid high cell le ge a b = absurd a.0
  between form at [] (g ∷ x) (suc k) low mid high cell le ge a b = absurd a.0
  between form at (c ∷ cs) [] k low mid high cell le ge a b = absurd a.0

-- fields of one kind of column, or none
abbrev pub AreOfKind : Option Field → Option Field → Type 0
AreOfKind None None = Unit {0}
AreOfKind (Some f) (Some g) = (kind : Kind) × IsFieldOf kind f × IsFieldOf kind g
AreOfKind _ _ = ⊥

-- items of the same columns have fields of one kind in each
pub same_kinds : (columns : List Column) (x y : List Field) → IsItemOf columns x
    → IsItemOf columns y → (k : ℕ) → AreOfKind (slice_get x k) (slice_get y k)
same_kinds [] [] [] a b k = tt
same_kinds (c ∷ cs) (f ∷ x) (g ∷ y) a b zero = (c.kind, a.0, b.0)
same_kinds (c ∷ cs) (f ∷ x) (g ∷ y) a b (suc k) = same_kinds cs x y a.1 b.1 k
same_kinds columns x y a b k = absurd assumption
