use Rattle.rate_equal.proofs.Freedom.{free_lack}
use Rattle.rate_equal.proofs.free.FreePositions.can_lack.Goals as goal

pub returns-then-is_within : goal.returns-then-is_within
returns-then-is_within c =
    λ is. free_lack _ _ _ _ c.around-free.ensures (c.is_within.ensures c.if-is_within.true)
    (c.are_apart.ensures is)
