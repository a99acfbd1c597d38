-- Walks, by their last item.
use Rattle.std.proofs.Common.{◌≡◌, ℕ, ◌+◌, ◌<◌, ◌⊎◌, ◌∷◌, [], ◌++◌, List, length, length-append}
use Rattle.std.proofs.Common.{refl, inl, inr, subst, arith}
use Rattle.ambiguity_check.specs.declared.graph.Node.{Node}
use Rattle.ambiguity_check.specs.Walks.{IsWalk, at_once, later}

-- a word with one more item
pub one_longer : {A : Type 0} (word : List A) (item : A) (items : ℕ) → length word ≡ items
    → length (word ++ item ∷ []) ≡ items + 1
one_longer word item items long = omega (arith, length-append word (item ∷ []))

module _ (begins : Node → Type 0) (continues : Node → Node → Type 0) (meet : Node → Type 0) where
  -- a walk has some items
  pub walk_some : (items : ℕ) (node : Node) → IsWalk begins continues meet items node → 0 < items
  walk_some _ _ (at_once node first met) = omega arith
  walk_some _ _ (later items before node walk goes met) = omega arith

  -- it is one of the first nodes, or a walk of one item less and an edge
  pub walk_cases : (items : ℕ) (node : Node) → IsWalk begins continues meet items node
      → ((items ≡ 1) × begins node × meet node)
      ⊎ ((some : ℕ) × (before : Node) × (items ≡ some + 1)
      × IsWalk begins continues meet some before × continues before node × meet node)
  walk_cases _ _ (at_once node first met) = inl (refl, first, met)
  walk_cases _ _ (later items before node walk goes met) =
      inr (items, before, refl, walk, goes, met)

  -- the number of items may be said in another way
  pub walk_as : (items items' : ℕ) (node : Node) → items ≡ items'
      → IsWalk begins continues meet items node → IsWalk begins continues meet items' node
  walk_as items items' node same walk =
      subst (λ (n : ℕ). IsWalk begins continues meet n node) same walk
