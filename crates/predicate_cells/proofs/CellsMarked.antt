-- The cells whose samples meet a predicate are those of the items that do.
use Rattle.std.proofs.Common.{◌≡◌, ℕ, suc, ◌+◌, ◌*◌, Bool, List, [], ◌∷◌, map, length, Some, sym}
use Rattle.std.proofs.Common.{ap, ap₂, ◌∙◌, refl}
use Rattle.std.specs.Prelude.{slice_get}
use Rattle.std.specs.List.{Contains}
use Rattle.std.proofs.lemmas.List.{length-map}
use Rattle.value_ops.specs.declared.field.Field.{Field}
use Rattle.item_schema.specs.declared.column.Column.{Column}
use Rattle.item_schema.specs.Items.{IsItemOf}
use Rattle.predicate_cells.specs.Cells.{Partition, cell_from, cell_of, cell_count, count_from}
use Rattle.predicate_cells.specs.CellSets.{flagged_from}
use Rattle.predicate_cells.specs.Marks.{Marks}
use Rattle.predicates.specs.Predicates.{Predicate}
use Rattle.predicate_cells.specs.Ranks.{ranks_of, ranks_from, class_in}
use Rattle.predicate_cells.specs.Samples.{samples}
use Rattle.predicates.specs.Truth.{holds}
use Rattle.predicate_cells.proofs.CellsAgree.{cells_decide}
use Rattle.predicate_cells.proofs.CellsFilled.{field_of_class_is, class_of_field}
use Rattle.predicate_cells.proofs.Flags.{flag_set, set_flag}
use Rattle.predicate_cells.proofs.RanksBelow.{rank_below}
use Rattle.predicate_cells.proofs.RanksOf.{count_of_ranks, class_of_ranks, cell_of_ranks}
use Rattle.predicate_cells.proofs.RanksOf.{cells_of_ranks}
use Rattle.predicate_cells.proofs.SampleCells.{sample_for, sample_at, length_samples}

length_items : (columns : List Column) (item : List Field) → IsItemOf columns item
    → length item ≡ length columns
length_items [] [] is = refl
length_items (c ∷ cs) (f ∷ fs) is = ap suc (length_items cs fs is.1)
length_items columns item is = absurd is

module _ (preds : List Predicate) where
  length_ranks : (at : ℕ) (columns : List Column)
      → length (ranks_from at columns preds) ≡ length columns
  length_ranks at [] = refl
  length_ranks at (c ∷ cs) = ap suc (length_ranks (at + 1) cs)

  -- the sample for an item is one, and in its cell
  sample_is : (at : ℕ) (columns : List Column) (item : List Field) → IsItemOf columns item
      → IsItemOf columns (sample_for (ranks_from at columns preds) item)
  sample_is at [] [] is = tt
  sample_is at (c ∷ cs) (f ∷ fs) is =
      let ranks = ranks_of c.kind at preds in
      let lt = rw (count_of_ranks at preds c.kind) at
      (rank_below ranks.starts ranks.texts c.kind f) in
      (field_of_class_is preds c.kind at (class_in ranks f) lt, sample_is (at + 1) cs fs is.1)
  sample_is at columns item is = absurd is

  sample_cell : (at : ℕ) (columns : List Column) (item : List Field) → IsItemOf columns item
      → cell_from at columns preds (sample_for (ranks_from at columns preds) item)
      ≡ cell_from at columns preds item
  sample_cell at [] [] is = refl
  sample_cell at (c ∷ cs) (f ∷ fs) is =
      let ranks = ranks_of c.kind at preds in
      let lt = rw (count_of_ranks at preds c.kind) at
      (rank_below ranks.starts ranks.texts c.kind f) in
      ap₂ (λ class rest. class * count_from (at + 1) cs preds + rest)
      (class_of_field preds c.kind at (class_in ranks f) lt ∙ class_of_ranks at preds c.kind f)
      (sample_cell (at + 1) cs fs is.1)
  sample_cell at columns item is = absurd is

-- the truths of the samples
abbrev pub truths : Partition → Predicate → List Bool
truths cells pred = map (holds pred) (samples (ranks_from 0 cells.layout.columns cells.preds))

truth_at : (cells : Partition) (pred : Predicate) → Contains cells.preds pred → (item : List Field)
    → IsItemOf cells.layout.columns item
    → slice_get (truths cells pred) (cell_of cells item) ≡ Some (holds pred item)
truth_at cells pred one item is =
    let columns = cells.layout.columns in
    let ranks = ranks_from 0 columns cells.preds in
    let here = sample_at ranks item
    (length_items columns item is ∙ sym (length_ranks cells.preds 0 columns)) (holds pred) in
    let same = cells_decide cells pred _ item one (sample_is cells.preds 0 columns item is) is
    (sample_cell cells.preds 0 columns item is) in
    rw (← cell_of_ranks cells.preds 0 columns item) (here ∙ ap Some same)

-- mark the items that meet the predicate
pub truths_mark : (cells : Partition) (pred : Predicate) → Contains cells.preds pred
    → Marks cells pred (flagged_from 0 (truths cells pred))
truths_mark cells pred one item is =
    let here = truth_at cells pred one item is in (
      λ has. let set = flag_set (truths cells pred) (cell_of cells item) has in cc,
      λ meets. set_flag (truths cells pred) (cell_of cells item) (here ∙ ap Some meets),
    )

-- and there is one for each cell
pub length_truths : (cells : Partition) (pred : Predicate)
    → length (truths cells pred) ≡ cell_count cells
length_truths cells pred =
    length-map (samples (ranks_from 0 cells.layout.columns cells.preds)) (holds pred)
    ∙ length_samples (ranks_from 0 cells.layout.columns cells.preds)
    ∙ cells_of_ranks cells.preds 0 cells.layout.columns
