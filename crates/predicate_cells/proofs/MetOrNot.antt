-- A predicate is met by the sample of some cell, or by no item.
use Rattle.std.proofs.Common.{◌≡◌, ℕ, zero, suc, ◌<◌, ◌≤◌, ◌⊎◌, inl, inr, Bool, true, false, List}
use Rattle.std.proofs.Common.{[], ◌∷◌, refl, sym, ◌∙◌, arith}
use Rattle.std.proofs.lemmas.Bool.{cases_lt}
use Rattle.std.proofs.lemmas.List.Elements.{Contains-get_or}
use Rattle.value_ops.specs.declared.field.Field.{Field}
use Rattle.item_schema.specs.declared.column.Column.{Column}
use Rattle.item_schema.specs.Items.{IsItemOf}
use Rattle.predicate_cells.specs.Cells.{Partition, cell_count, cell_of}
use Rattle.predicate_cells.specs.Met.{IsMet, IsUnmet}
use Rattle.predicates.specs.Predicates.{Predicate}
use Rattle.predicate_cells.specs.Ranks.{ranks_from}
use Rattle.predicate_cells.specs.Samples.{sample_of}
use Rattle.predicates.specs.Truth.{holds}
use Rattle.predicate_cells.proofs.CellsAgree.{cells_decide}
use Rattle.predicate_cells.proofs.CellsBelow.{cell_below}
use Rattle.predicate_cells.proofs.CellsFilled.{sample_in}

-- a test passes at a number below a bound, or fails at each
pub search_below : (test : ℕ → Bool) (bound : ℕ)
    → ((n : ℕ) × (n < bound) × (test n ≡ true)) ⊎ ((n : ℕ) → n < bound → test n ≡ false)
search_below test zero = inr (λ n below. absurd (omega arith))
search_below test (suc bound) = by (search_below test bound) (test bound) refl
  where
    by : ((n : ℕ) × (n < bound) × (test n ≡ true)) ⊎ ((n : ℕ) → n < bound → test n ≡ false)
        → (last : Bool) → test bound ≡ last
        → ((n : ℕ) × (n < suc bound) × (test n ≡ true)) ⊎ ((n : ℕ) → n < suc bound → test n ≡ false)
    by (inl (n, below, passes)) last is = inl (n, omega arith, passes)
    by (inr none) true is = inl (bound, omega arith, is)
    by (inr none) false is = inr (λ n below. at n (cases_lt n bound) below)
      where
        at : (n : ℕ) → (n < bound) ⊎ (bound ≤ n) → n < suc bound → test n ≡ false
        at n (inl before) below = none n before
        at n (inr last) below = let same : n ≡ bound = omega arith in rw same is

module _ (columns : List Column) (pred : Predicate) where
  -- the cells of the items under the predicate alone
  abbrev cells : Partition
  cells = record { layout = record { has_header = false; columns = columns }; preds = pred ∷ [] }

  -- the sample of a cell
  abbrev sample : ℕ → List Field
  sample cell = sample_of (ranks_from 0 columns (pred ∷ [])) cell

  -- an item says of the predicate what the sample of its cell does
  as_sample : (item : List Field) → IsItemOf columns item
      → holds pred item ≡ holds pred (sample (cell_of cells item))
  as_sample item is =
      let inside = sample_in cells (cell_of cells item) (cell_below cells item) in
      cells_decide cells pred item (sample (cell_of cells item))
      (Contains-get_or (pred ∷ []) 0 pred (omega arith)) is inside.0 (sym inside.1)

  pub met_or_not : IsMet columns pred ⊎ IsUnmet columns pred
  met_or_not = by (search_below (λ cell. holds pred (sample cell)) (cell_count cells))
    where
      by : ((n : ℕ) × (n < cell_count cells) × (holds pred (sample n) ≡ true))
          ⊎ ((n : ℕ) → n < cell_count cells → holds pred (sample n) ≡ false)
          → IsMet columns pred ⊎ IsUnmet columns pred
      by (inl (cell, below, passes)) = inl (sample cell, (sample_in cells cell below).0, passes)
      by (inr none) =
          inr (λ item is. as_sample item is ∙ none (cell_of cells item) (cell_below cells item))
