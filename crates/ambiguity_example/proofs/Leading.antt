-- Which nodes the moves from one node lead to.
use Rattle.std.proofs.Common.{◌≡◌, ◌↔◌, ℕ, ◌^◌, inl, inr, sym, subst, true, false, Bool, refl}
use Rattle.std.specs.Prelude.{IsTrue, None, Some, IsSomeAnd}
use Rattle.rate_expr.proofs.MaskMembers.{has_one, has_only_one}
use Rattle.rate_expr.specs.Sets.{Has}
use Rattle.ambiguity_check.proofs.Marking.{node_at}
use Rattle.ambiguity_check.specs.declared.graph.Move.{Move}
use Rattle.ambiguity_check.specs.declared.graph.Moves.{Moves}
use Rattle.ambiguity_check.specs.declared.graph.Node.{Node}
use Rattle.ambiguity_check.specs.Walks.{IsIn, IsOf}
use Rattle.ambiguity_example.proofs.Deciding.{not_both}

module _ (continues : Node → Node → Type 0) (before node : Node) (moves : Moves) (rights : ℕ)
    (one : rights ≡ 2 ^ before.right)
    (are : IsIn moves node ↔ ((right : ℕ) × Has rights right
    × continues (node_at before.phase before.left right) node)) where
  -- they lead where one more item does
  pub lead_there : IsIn moves node → continues before node
  lead_there in' =
      let from = are.0 in' in
      let same : before.right ≡ from.0 = has_only_one before.right from.0
      (subst (λ (mask : ℕ). Has mask from.0) one from.1) in
      subst (λ (right : ℕ). continues (node_at before.phase before.left right) node)
      (sym same) from.2

  pub there_leads : continues before node → IsIn moves node
  there_leads goes = are.1 (
    before.right,
    subst (λ (mask : ℕ). Has mask before.right) (sym one) (has_one before.right),
    goes,
  )

  -- the node is one that the moves without an end lead to
  pub stays_there : (test : Bool) → IsTrue test ↔ IsOf moves.stay node → test ≡ true
      → IsTrue true ↔ continues before node
  stays_there test decided is = (λ t. lead_there (inl (decided.0 is)), λ goes. refl)

  -- it is not, and the others decide
  pub turns_there : (test other : Bool) (turn : Move) → IsTrue test ↔ IsOf moves.stay node
      → test ≡ false → moves.turn ≡ Some turn → IsTrue other ↔ IsOf turn node
      → IsTrue other ↔ continues before node
  turns_there test other turn decided not_stay is decided' = (
    λ t. lead_there
        (inr (subst (λ o. IsSomeAnd o (λ move. IsOf move node)) (sym is) (decided'.0 t))),
    λ goes. elim (there_leads goes) [
      | inl stays ↦ absurd (not_both test (decided.1 stays) not_stay)
      | inr turns ↦ decided'.1 (subst (λ o. IsSomeAnd o (λ move. IsOf move node)) is turns)
    ],
  )

  -- it is not, and there are no others
  pub leads_nowhere : (test : Bool) → IsTrue test ↔ IsOf moves.stay node → test ≡ false
      → moves.turn ≡ None → IsTrue false ↔ continues before node
  leads_nowhere test decided not_stay is = (
    λ t. absurd (not_both false t refl),
    λ goes. elim (there_leads goes) [
      | inl stays ↦ absurd (not_both test (decided.1 stays) not_stay)
      | inr turns ↦ absurd (subst (λ o. IsSomeAnd o (λ move. IsOf move node)) is turns)
    ],
  )
