-- Statement. The levels of a search: the nodes to which a walk of a number of items leads, and no
-- shorter one.
use Rattle.std.specs.Prelude.{◌↔◌, ◌<◌, ◌≤◌, ℕ, List}
use Rattle.ambiguity_check.specs.declared.graph.Node.{Node}
use Rattle.ambiguity_check.specs.Marked.{IsMarked}
use Rattle.ambiguity_check.specs.Walks.{IsWalk}

-- the nodes of all levels so far, and those of the last one
pub record Searched : Type 0 where
  pub seen : List ℕ
  pub latest : List ℕ

-- a walk of `items` items leads to the node, and no shorter one does
pub record IsShortest (begins : Node → Type 0) (continues : Node → Node → Type 0)
    (meet : Node → Type 0) (items : ℕ) (node : Node) : Type 0 where
  pub walk : IsWalk begins continues meet items node
  pub none : (fewer : ℕ) → fewer < items → IsWalk begins continues meet fewer node → ⊥

-- after `items` items, exactly the nodes are seen to which walks of at most that many lead, and the
-- latest are those of them to which no shorter walk leads
pub record IsLevel (begins : Node → Type 0) (continues : Node → Node → Type 0)
    (meet : Node → Type 0) (items : ℕ) (search : Searched) : Type 0 where
  pub begun : 0 < items
  pub seen : (node : Node) → IsMarked search.seen node
      ↔ ((some : ℕ) × (some ≤ items) × IsWalk begins continues meet some node)
  pub latest : (node : Node) → IsMarked search.latest node
      ↔ IsShortest begins continues meet items node
