use Rattle.std.proofs.Common.{◌≡◌, map, filter, take}
use Rattle.std.specs.List.{flat_map}
use Rattle.predicate_cells.specs.Classes.{beginnings, begins_class}
use Rattle.predicates.specs.Plain.{plain_of}
use Rattle.predicate_cells.proofs.starts.starts_of.Given as goal

-- the starts that the tests so far begin
abbrev pub invariant-loop-pred : goal.invariant-loop-pred
invariant-loop-pred l =
    l.starts.items ≡ filter begins_class
    (flat_map (beginnings l.column) (map plain_of (take l.pred-index l.preds)))
