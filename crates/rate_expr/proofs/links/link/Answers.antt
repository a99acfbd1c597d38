use Rattle.std.proofs.Common.{arith}
use Rattle.rate_expr.proofs.Linking.{linked_each}
use Rattle.rate_expr.proofs.links.link.Goals as goal

pub returns : goal.returns
returns c =
    linked_each _ _ _ _ c.loop-position.invariant.each
    (λ i below. c.loop-position.invariant.below i (omega arith))
