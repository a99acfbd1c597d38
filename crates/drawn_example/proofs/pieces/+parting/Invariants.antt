use Rattle.std.proofs.Common.{length}
use Rattle.drawn_example.proofs.pieces.+parting.Given as goal

abbrev pub decreases-parting : goal.decreases-parting
decreases-parting l = length l.first.now
