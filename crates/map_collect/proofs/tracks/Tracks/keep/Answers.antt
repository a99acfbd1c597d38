use Rattle.map_collect.proofs.Choices.{AreTracks-kept}
use Rattle.map_collect.proofs.tracks.Tracks.keep.Goals as goal

pub invariant_of-self : goal.invariant_of-self
invariant_of-self g c = AreTracks-kept _ _ _ c.keep_extending.ensures c.self.invariant
