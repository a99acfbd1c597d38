-- For the prover. The nodes that a search has seen, level by level.
use Rattle.std.specs.Prelude.{◌≡◌, ◌<◌, ◌≤◌, ◌++◌, ℕ, List, [], ◌∷◌}
use Rattle.std.specs.List.{Contains}
use Rattle.ambiguity_check.specs.declared.graph.Node.{Node}
use Rattle.ambiguity_check.specs.Lengths.{EndsAfter}
use Rattle.ambiguity_check.specs.Levels.{IsShortest}
use Rattle.ambiguity_example.specs.declared.reached_nodes.Reached.{Reached}

-- the `nodes` are appended to the others, each with this number of items
pub record Adds (nodes : Node → Type 0) (items : ℕ) (old new : List Reached) : Type 0 where
  pub more : List Reached
  pub whole : new ≡ old ++ more
  pub only : (one : Reached) → Contains more one
      → nodes one.node × (one.items ≡ items) × (one.node.right < 128)
  pub each : (node : Node) → nodes node → Contains more (record { node = node; items = items })

-- the numbers of items never fall along the list
abbrev pub Rises : List Reached → Type 0
Rises [] = Unit {0}
Rises (one ∷ others) =
    ((other : Reached) → Contains others other → one.items ≤ other.items) × Rises others

-- these are the nodes of all levels before this one, level by level
pub record AreKnown (begins : Node → Type 0) (continues : Node → Node → Type 0)
    (meet : Node → Type 0)
    (level : ℕ) (reached : List Reached) : Type 0 where
  pub only : (one : Reached) → Contains reached one
      → IsShortest begins continues meet one.items one.node
      × (one.items < level) × (one.node.right < 128)
  pub each : (node : Node) (fewer : ℕ) → fewer < level → IsShortest begins continues meet fewer node
      → Contains reached (record { node = node; items = fewer })
  pub rises : Rises reached

-- the node is an end, no walk of fewer items leads to any end, and the nodes of all levels before
-- its own are known
pub record IsFirstEnd (begins : Node → Type 0) (continues : Node → Node → Type 0)
    (meet : Node → Type 0)
    (ends : Node → Type 0) (reached : List Reached) (end : Reached) : Type 0 where
  pub ended : ends end.node
  pub shortest : IsShortest begins continues meet end.items end.node
  pub none : (fewer : ℕ) → fewer < end.items → EndsAfter begins continues meet ends fewer → ⊥
  pub known : AreKnown begins continues meet end.items reached
