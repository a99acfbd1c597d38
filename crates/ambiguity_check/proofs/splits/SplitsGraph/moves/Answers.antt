use Rattle.std.proofs.Common.{ℕ}
use Rattle.rate_expr.specs.Paths.{Follows}
use Rattle.ambiguity_check.specs.Splits.{right_of, StaysIn, TurnsTo}
use Rattle.ambiguity_check.proofs.Either.{some_each, from_some}
use Rattle.ambiguity_check.proofs.splits.SplitsGraph.moves.Goals as goal

pub returns : goal.returns
returns c = λ node.
    let first = c.args.self.now.first.now in
    let second = c.args.self.now.second.now in
    some_each c.args.rights
    (λ (right : ℕ). StaysIn first second
    (record { phase = c.args.phase; left = c.args.left; right = right }) node)
    (λ (right : ℕ). TurnsTo first second c.args.phase c.args.left right node)
    (from_some c.args.rights
    (λ (right : ℕ). Follows (right_of first second c.args.phase) right node.right)
    (rw c.left.ensures at c.after.ensures node.left)
    (rw c.right.ensures at c.all_after.ensures node.right))
    (c.turn.ensures node)
