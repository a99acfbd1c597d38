use Rattle.predicates.specs.Plain.{plain_of}
use Rattle.slow_eval.proofs.Keying.{IsOnItemsSoFar}
use Rattle.slow_eval.proofs.keys.on_items.Given as goal

abbrev pub invariant-items : goal.invariant-items
invariant-items l =
    IsOnItemsSoFar l.columns (plain_of l.sync) l.key l.word l.answers l.row.items
    l.item-index l.items
