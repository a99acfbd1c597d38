-- Statement. Walks of two readings of one word.
use Rattle.std.specs.Prelude.{◌≡◌, ◌+◌, ℕ, ◌⊎◌, IsSomeAnd}
use Rattle.rate_expr.specs.Sets.{Has}
use Rattle.ambiguity_check.specs.declared.graph.Phase.{Phase}
use Rattle.ambiguity_check.specs.declared.graph.Phase.TheVariants.{Together, Parted, Rejoined}
use Rattle.ambiguity_check.specs.declared.graph.Node.{Node}
use Rattle.ambiguity_check.specs.declared.graph.Move.{Move}
use Rattle.ambiguity_check.specs.declared.graph.Moves.{Moves}

-- how many phases there are
abbrev pub phases : ℕ
phases = 3

-- the number of a phase
abbrev pub rank : Phase → ℕ
rank Together = 0
rank Parted = 1
rank Rejoined = 2

-- the move leads to the node
abbrev pub IsOf : Move → Node → Type 0
IsOf move node = (node.phase ≡ move.phase) × Has move.left node.left × Has move.right node.right

-- one of the moves leads to the node
abbrev pub IsIn : Moves → Node → Type 0
IsIn moves node = IsOf moves.stay node ⊎ IsSomeAnd moves.turn (λ move. IsOf move node)

-- a walk of the given number of items leads to the node: it begins at a first node and follows
-- edges, and some item meets both positions of each of its nodes
pub data IsWalk (begins : Node → Type 0) (continues : Node → Node → Type 0) (meet : Node → Type 0)
    : ℕ → Node → Type 0 where
  at_once : (node : Node) → begins node → meet node → IsWalk begins continues meet 1 node
  later : (items : ℕ) (before node : Node) → IsWalk begins continues meet items before
      → continues before node → meet node → IsWalk begins continues meet (items + 1) node

-- some walk leads to the node
abbrev pub IsReached : (Node → Type 0) → (Node → Node → Type 0) → (Node → Type 0) → Node → Type 0
IsReached begins continues meet node = (items : ℕ) × IsWalk begins continues meet items node
