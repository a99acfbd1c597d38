-- Statement. Sets of nodes, as a row for each left position and phase, which is a mask of right
-- positions.
use Rattle.std.specs.Prelude.{◌≡◌, ◌+◌, ◌*◌, ◌≤◌, ℕ, ◌⊎◌, List, slice_index, sum, sum_by, ◌-◌, ◌^◌}
use Rattle.rate_expr.specs.Sets.{Has}
use Rattle.ambiguity_check.specs.declared.graph.Phase.{Phase}
use Rattle.ambiguity_check.specs.declared.graph.Node.{Node}
use Rattle.ambiguity_check.specs.Walks.{phases, rank, IsReached}

-- the row of a node
abbrev pub row_of : Node → ℕ
row_of node = phases * node.left + rank node.phase

-- the node is in the set
abbrev pub IsMarked : List ℕ → Node → Type 0
IsMarked rows node = Has (slice_index rows (row_of node)) node.right

-- how much larger the masks can still become; this falls with each node that is added
abbrev pub room : List ℕ → ℕ
room rows = sum_by (λ row. 2 ^ 128 - row) rows

-- the node has this phase, this left position, and a right position in the mask
abbrev pub IsInRow : Phase → ℕ → ℕ → Node → Type 0
IsInRow phase left mask node =
    (node.phase ≡ phase) × (node.left ≡ left) × Has mask node.right

-- the nodes of a row are added to the set; if they are new, its room falls by as much
pub record AreMarkedToo (old : List ℕ) (phase : Phase) (left mask : ℕ) (new : List ℕ) : Type 0 where
  pub marked : (node : Node) → IsInRow phase left mask node → IsMarked new node
  pub kept : (node : Node) → IsMarked old node → IsMarked new node
  pub only : (node : Node) → IsMarked new node → IsMarked old node ⊎ IsInRow phase left mask node
  pub larger : sum new ≤ sum old + mask
  pub room : ((node : Node) → IsInRow phase left mask node → IsMarked old node → ⊥)
      → room new + mask ≤ room old

-- the set has exactly the nodes that walks lead to
abbrev pub AreReached : (Node → Type 0) → (Node → Node → Type 0) → (Node → Type 0) → List ℕ → Type 0
AreReached begins continues meet rows =
    (node : Node) → (IsMarked rows node → IsReached begins continues meet node)
    × (IsReached begins continues meet node → IsMarked rows node)
