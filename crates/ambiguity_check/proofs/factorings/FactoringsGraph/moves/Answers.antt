use Rattle.std.proofs.Common.{ℕ, ◌≡◌, inl, inr}
use Rattle.rate_expr.specs.Paths.{Follows}
use Rattle.rate_expr.specs.Sets.{Has}
use Rattle.ambiguity_check.specs.Factorings.{FollowsInIteration}
use Rattle.ambiguity_check.specs.Walks.{IsOf}
use Rattle.ambiguity_check.specs.declared.graph.Phase.TheVariants.{Together, Parted}
use Rattle.ambiguity_check.proofs.Either.{from_some, only_way, some_each, then_says, turn_from_some}
use Rattle.ambiguity_check.proofs.factorings.FactoringsGraph.moves.Goals as goal

pub returns-in-Together : goal.returns-in-Together
returns-in-Together c = λ node.
    let sets = c.args.self.now.positions.now in
    let says = then_says c.has.result _ c.then_some.result (λ step. IsOf step node)
    c.then_some.ensures c.has.ensures in
    rw c.in-Together.is (some_each c.args.rights
    (λ (right : ℕ). (node.phase ≡ Together) × Follows sets c.args.left node.left
    × Follows sets right node.right)
    (λ (right : ℕ). Has sets.last c.args.left × (node.phase ≡ Parted) × Has sets.first node.left
    × Follows sets right node.right)
    (from_some c.args.rights (λ (right : ℕ). Follows sets right node.right)
    (c.after.ensures node.left) (c.all_after.ensures node.right))
    (turn_from_some c.args.rights (λ (right : ℕ). Follows sets right node.right)
    (rw (c.last.ensures, c.first.ensures) at says) (c.all_after-in-Together.ensures node.right)))

pub returns-in-Parted : goal.returns-in-Parted
returns-in-Parted c = λ node.
    let moves = from_some c.args.rights
    (λ (right : ℕ). FollowsInIteration c.args.self.now.positions.now right node.right)
    (c.onward.ensures node.left) (c.all_onward.ensures node.right) in
    elim c.in-Parted.is [ inl e ↦ rw e (only_way moves) | inr e ↦ rw e (only_way moves) ]
