use Rattle.std.proofs.Common.{◌≡◌, take}
use Rattle.predicates.specs.Plain.{plain_of}
use Rattle.query_model.specs.Denotation.{projection}
use Rattle.slow_eval.proofs.keys.projection.Given as goal

abbrev pub invariant-items : goal.invariant-items
invariant-items l =
    l.items.items ≡ projection l.columns (plain_of l.sync) l.key (take l.item-index l.word)
