-- For the prover. What the step of a search from a level finds.
use Rattle.std.specs.Prelude.{◌≡◌, ◌+◌, ◌≤◌, ℕ, ◌⊎◌, List, sum}
use Rattle.ambiguity_check.specs.declared.graph.Phase.{Phase}
use Rattle.ambiguity_check.specs.declared.graph.Node.{Node}
use Rattle.ambiguity_check.specs.Marked.{IsMarked, room}

-- all `nodes` are seen now, and those of them that were not seen before are in the next level
pub record AreFound (nodes : Node → Type 0) (seen next seen' next' : List ℕ) : Type 0 where
  pub marked : (node : Node) → nodes node → IsMarked seen' node
  pub kept : (node : Node) → IsMarked seen node → IsMarked seen' node
  pub only : (node : Node) → IsMarked seen' node
      → IsMarked seen node ⊎ (nodes node × IsMarked next' node)
  pub stays : (node : Node) → IsMarked next node → IsMarked next' node
  pub new : (node : Node) → IsMarked next' node
      → IsMarked next node ⊎ (nodes node × (IsMarked seen node → ⊥))
  pub fewer : room seen' + sum next' ≤ room seen + sum next

-- one more item may lead to the node from some node of the level
abbrev pub IsAfter : (Node → Node → Type 0) → (Node → Type 0) → List ℕ → Node → Type 0
IsAfter continues meet level node =
    (before : Node) × IsMarked level before × continues before node × meet node

-- the same from some node of the level in this phase
abbrev pub IsAfterPhase : (Node → Node → Type 0) → (Node → Type 0) → List ℕ → Phase → Node → Type 0
IsAfterPhase continues meet level phase node =
    (before : Node) × (before.phase ≡ phase) × IsMarked level before
    × continues before node × meet node
