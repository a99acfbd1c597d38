-- Cells of items that meet a predicate and are not every key's.
use Rattle.std.proofs.Common.{◌≡◌, ◌↔◌, ◌<◌, ◌+◌, ℕ, Bool, true, false, List, refl, sym, subst}
use Rattle.std.proofs.Common.{arith, inl, inr}
use Rattle.std.proofs.lemmas.Bool.{cases_lt}
use Rattle.std.specs.Prelude.{IsTrue}
use Rattle.std.specs.List.{Contains}
use Rattle.predicate_cells.specs.Cells.{Partition, cell_count, cell_of}
use Rattle.predicate_cells.specs.Marks.{Marks}
use Rattle.predicate_cells.proofs.CellsBelow.{cell_below}
use Rattle.predicate_cells.proofs.CellsFilled.{cells_have_items}
use Rattle.predicates.specs.Predicates.{Predicate}
use Rattle.predicates.specs.Truth.{holds}
use Rattle.empty_tables.specs.OwnItems.{HasOwnItem}

-- what is not true is false
not_true : (b : Bool) → (b ≡ true → ⊥) → b ≡ false
not_true true never = absurd (never refl)
not_true false never = refl

pub not_if_false : {P : Type 0} (test : Bool) → IsTrue test ↔ P → test ≡ false → P → ⊥
not_if_false true exact is holds = absurd (cc)
not_if_false false exact is holds = let never = exact.1 holds in absurd (cc)

pub so_if_true : {P : Type 0} (test : Bool) → IsTrue test ↔ P → test ≡ true → P
so_if_true true exact is = exact.0 refl
so_if_true false exact is = absurd (cc)

-- what holds of each number below another, and of that one, holds of each below the next
pub and_next : (P : ℕ → Type 0) (n : ℕ) → ((k : ℕ) → k < n → P k) → P n
    → (k : ℕ) → k < n + 1 → P k
and_next P n below here k less = elim (cases_lt k n) [
  | inl small ↦ below k small
  | inr most ↦
      let is : n ≡ k = omega arith in subst P is here
]

module _ (cells : Partition) (sync pred : Predicate) (met every : List ℕ)
    (marks_met : Marks cells pred met) (marks_every : Marks cells sync every) where
  -- such a cell has an item
  pub own_found : (cell : ℕ) → cell < cell_count cells → Contains met cell
      → (Contains every cell → ⊥) → HasOwnItem cells.layout.columns sync pred
  own_found cell within in_met not_every =
      let (item, lies) = cells_have_items cells cell within in
      record {
        item = item;
        is_item = lies.0;
        meets = (marks_met item lies.0).0 (subst (Contains met) (sym lies.1) in_met);
        own = not_true (holds sync item) (λ is. not_every
            (subst (Contains every) lies.1 ((marks_every item lies.0).1 is)));
      }

  -- and such an item has a cell
  pub none_found : (count : ℕ) → cell_count cells ≡ count
      → ((cell : ℕ) → cell < count → Contains met cell → Contains every cell)
      → HasOwnItem cells.layout.columns sync pred → ⊥
  none_found count same all own =
      let cell = cell_of cells own.item in
      let within : cell < count = subst (λ (n : ℕ). cell < n) same (cell_below cells own.item) in
      let is_every = all cell within ((marks_met own.item own.is_item).1 own.meets) in
      let never = (marks_every own.item own.is_item).0 is_every in
      let own_is = own.own in absurd (cc)
