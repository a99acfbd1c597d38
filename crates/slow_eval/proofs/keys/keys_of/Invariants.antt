use Rattle.predicates.specs.Plain.{plain_of}
use Rattle.slow_eval.proofs.Keying.{AreKeysSoFar}
use Rattle.slow_eval.proofs.keys.keys_of.Given as goal

abbrev pub invariant-items : goal.invariant-items
invariant-items l =
    AreKeysSoFar l.columns (plain_of l.sync) l.word l.item-index l.keys.items l.counts.items
