-- For the prover. An item of each cell.
use Rattle.std.specs.Prelude.{ℕ, ◌/◌, ◌%◌, List, [], ◌∷◌, ◌++◌, map, replicate, Option, None, Some}
use Rattle.std.specs.List.{flat_map, range_with_len}
use Rattle.value_ops.specs.declared.field.Field.{Field}
use Rattle.value_ops.specs.declared.field.Field.TheVariants as field
use Rattle.value_ops.specs.declared.value.Value.TheVariants as value
use Rattle.predicate_cells.specs.CellSets.{flagged_from}
use Rattle.predicates.specs.Predicates.{Predicate}
use Rattle.predicate_cells.specs.Ranks.{Ranks, count_in, field_in, cells_in}
use Rattle.predicates.specs.Truth.{holds}

-- each list of fields, with a field of the class in front
abbrev pub with_class : Ranks → List (List Field) → ℕ → List (List Field)
with_class ranks items class = map (λ fields. field_in ranks class ∷ fields) items

-- an item of each cell of the columns, in the order of the cells
abbrev pub samples : List Ranks → List (List Field)
samples [] = [] ∷ []
samples (ranks ∷ others) =
    flat_map (with_class ranks (samples others)) (range_with_len 0 (count_in ranks))

-- a field that is neither a number nor a text
abbrev pub blank : Field
blank = field.Val (value.Table [])

-- a row in which only this column may have a number or a text
abbrev pub row_of : ℕ → Option Field → List Field
row_of column None = []
row_of column (Some field) = replicate column blank ++ field ∷ []

-- the sample of a cell, whose number has the classes of the fields as digits
abbrev pub sample_of : List Ranks → ℕ → List Field
sample_of [] cell = []
sample_of (ranks ∷ others) cell =
    field_in ranks (cell / cells_in others) ∷ sample_of others (cell % cells_in others)

-- the cells whose samples meet a predicate
abbrev pub mask_in : List Ranks → Predicate → List ℕ
mask_in columns pred = flagged_from 0 (map (holds pred) (samples columns))
