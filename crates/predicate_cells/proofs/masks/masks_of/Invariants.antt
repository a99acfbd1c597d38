use Rattle.std.proofs.Common.{◌≡◌, map, take}
use Rattle.predicates.specs.Plain.{plain_of}
use Rattle.predicate_cells.specs.Samples.{mask_in}
use Rattle.predicate_cells.proofs.masks.masks_of.Given as goal

-- the masks of the predicates so far stand there
abbrev pub invariant-loop-pred : goal.invariant-loop-pred
invariant-loop-pred l =
    l.masks.items ≡ map (mask_in l.columns) (map plain_of (take l.pred-index l.preds))
