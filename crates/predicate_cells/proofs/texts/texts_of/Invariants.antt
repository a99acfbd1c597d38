use Rattle.std.proofs.Common.{◌≡◌, map, filter, take}
use Rattle.std.specs.List.{flat_map}
use Rattle.value_ops.specs.Texts.{are_bytes}
use Rattle.predicate_cells.specs.Classes.{named_texts}
use Rattle.predicates.specs.Plain.{plain_of}
use Rattle.predicate_cells.proofs.texts.texts_of.Given as goal

-- the texts that the tests so far name
abbrev pub invariant-loop-pred : goal.invariant-loop-pred
invariant-loop-pred l =
    map (λ t. t.now) l.named.items
    ≡ filter are_bytes (flat_map (named_texts l.column) (map plain_of (take l.pred-index l.preds)))
