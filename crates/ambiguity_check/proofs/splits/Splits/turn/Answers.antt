use Rattle.std.proofs.Common.{ℕ}
use Rattle.rate_expr.specs.Paths.{Follows}
use Rattle.ambiguity_check.specs.Walks.{IsOf}
use Rattle.ambiguity_check.proofs.Either.{then_says, turn_from_some}
use Rattle.ambiguity_check.proofs.splits.Splits.turn.Goals as goal

pub returns-in-Together : goal.returns-in-Together
returns-in-Together c = λ node.
    let says = then_says c.has.result _ c.then_some.result (λ step. IsOf step node)
    c.then_some.ensures c.has.ensures in
    rw c.in-Together.is (turn_from_some c.args.rights
    (λ (right : ℕ). Follows c.args.self.now.first.now right node.right)
    (rw (c.last.ensures, c.first.ensures) at says) (c.all_after.ensures node.right))
