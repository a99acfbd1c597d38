use Rattle.std.proofs.Common.{◌≡◌, ◌<◌, ◌++◌, drop}
use Rattle.predicate_cells.specs.Ranks.{cells_in}
use Rattle.predicate_cells.specs.Samples.{sample_of}
use Rattle.predicate_cells.proofs.columns.fields_of.Given as goal

-- the fields so far and those of what is left of the cell are the sample
abbrev pub invariant-loop-classes : goal.invariant-loop-classes
invariant-loop-classes l = record {
  width : l.width ≡ cells_in (drop l.classes-index l.columns);
  below : l.rest < l.width;
  whole : l.fields.items ++ sample_of (drop l.classes-index l.columns) l.rest
      ≡ sample_of l.columns l.cell;
}
