use Rattle.std.proofs.Common.{◌≡◌, map, take}
use Rattle.predicates.specs.Plain.{plain_of}
use Rattle.predicates.proofs.preds.Preds.try_copy.Given as goal

-- the predicates so far are copied
abbrev pub invariant-loop-pred : goal.invariant-loop-pred
invariant-loop-pred l = map plain_of l.preds.items ≡ map plain_of (take l.pred-index l.pred-items)
