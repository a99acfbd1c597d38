use Rattle.std.proofs.Common.{ℕ}
use Rattle.rate_expr.specs.Paths.{Follows}
use Rattle.ambiguity_check.proofs.Either.{from_some, only_way}
use Rattle.ambiguity_check.proofs.overlaps.PairsGraph.moves.Goals as goal

pub returns : goal.returns
returns c = λ node. only_way (from_some c.args.rights
    (λ (right : ℕ). Follows c.args.self.now.second.now right node.right)
    (c.after.ensures node.left) (c.all_after.ensures node.right))
