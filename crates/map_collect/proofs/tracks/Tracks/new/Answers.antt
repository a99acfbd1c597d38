use Rattle.map_collect.proofs.Starts.{AreTracks-none}
use Rattle.map_collect.proofs.tracks.Tracks.new.Goals as goal

pub invariant_of-result : goal.invariant_of-result
invariant_of-result g c = AreTracks-none _ _ c.new.ensures.items
