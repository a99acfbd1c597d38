use Rattle.std.proofs.Common.{◌≡◌, ◌++◌, map, drop}
use Rattle.predicates.specs.Plain.{plain_of}
use Rattle.predicate_cells.specs.Ranks.{ranks_from}
use Rattle.predicate_cells.proofs.columns.classes_of.Given as goal

-- the classes so far and those of the other columns are all
abbrev pub invariant-loop-at : goal.invariant-loop-at
invariant-loop-at l =
    let preds = map plain_of l.preds in
    l.classes.items ++ ranks_from l.at (drop l.at l.columns) preds ≡ ranks_from 0 l.columns preds
