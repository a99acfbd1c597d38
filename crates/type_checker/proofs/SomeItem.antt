-- Some item meets a predicate where it has a cell, and none where it has none.
use Rattle.std.proofs.Common.{◌≡◌, ◌≢◌, ◌<◌, ℕ, Bool, true, false, List, [], ◌∷◌, refl, sym, subst}
use Rattle.std.proofs.Common.{arith}
use Rattle.std.proofs.lemmas.List.Elements.{All-contains}
use Rattle.std.specs.List.{All, Contains}
use Rattle.predicate_cells.specs.Cells.{Partition, cell_count, cell_of}
use Rattle.predicate_cells.specs.Marks.{Marks}
use Rattle.predicate_cells.specs.Met.{IsMet, IsUnmet}
use Rattle.predicates.specs.Predicates.{Predicate}
use Rattle.predicates.specs.Truth.{holds}
use Rattle.predicate_cells.proofs.CellsFilled.{cells_have_items}

-- the first of a list is in it
first_in : (cell : ℕ) (rest : List ℕ) → Contains (cell ∷ rest) cell
first_in cell rest = (0, omega arith, refl)

-- what is not true is false
not_true : (b : Bool) → (b ≡ true → ⊥) → b ≡ false
not_true true never = absurd (never refl)
not_true false never = refl

module _ (cells : Partition) (pred : Predicate) where
  -- the first of these cells has an item
  pub some_item : (set : List ℕ) → All (λ cell. cell < cell_count cells) set
      → Marks cells pred set → set ≢ [] → IsMet cells.layout.columns pred
  some_item [] below met some = absurd (some refl)
  some_item (cell ∷ rest) below met some =
      let first = first_in cell rest in
      let within = All-contains (λ c. c < cell_count cells) (cell ∷ rest) cell below first in
      let (item, lies) = cells_have_items cells cell within in
      let here : Contains (cell ∷ rest) (cell_of cells item) =
      subst (Contains (cell ∷ rest)) (sym lies.1) first in
      (item, lies.0, (met item lies.0).0 here)

  -- no item has its cell among none
  pub no_item : (set : List ℕ) → Marks cells pred set → set ≡ [] → IsUnmet cells.layout.columns pred
  no_item set met none = λ item of_columns. not_true (holds pred item) (λ meets.
      let has = (met item of_columns).1 meets in
      let (k, within, is) = subst (λ (s : List ℕ). Contains s (cell_of cells item)) none has in
      absurd (omega arith))
