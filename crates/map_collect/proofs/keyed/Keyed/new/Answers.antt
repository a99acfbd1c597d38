use Rattle.map_collect.proofs.Names.{AreKept-none}
use Rattle.map_collect.proofs.keyed.Keyed.new.Goals as goal

pub invariant_of-result : goal.invariant_of-result
invariant_of-result g c = AreKept-none _ _ c.new.ensures.empty c.new-2.ensures.items
