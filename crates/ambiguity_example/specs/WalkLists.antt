-- Statement. The nodes of a walk, one after the other.
use Rattle.std.specs.Prelude.{◌<◌, ◌^◌, ℕ, List, [], ◌∷◌, length}
use Rattle.ambiguity_check.specs.declared.graph.Node.{Node}
use Rattle.ambiguity_check.specs.Lengths.{EndsAfter}

-- the walk leads from the node along the others to an end
abbrev pub GoesAlong : (Node → Node → Type 0) → (Node → Type 0) → (Node → Type 0) → Node
    → List Node → Type 0
GoesAlong continues meet ends node [] = ends node
GoesAlong continues meet ends node (next ∷ nodes) =
    continues node next × meet next × GoesAlong continues meet ends next nodes

-- the nodes are those of a walk to an end
abbrev pub IsWalkOf : (Node → Type 0) → (Node → Node → Type 0) → (Node → Type 0) → (Node → Type 0)
    → List Node → Type 0
IsWalkOf begins continues meet ends [] = ⊥
IsWalkOf begins continues meet ends (node ∷ nodes) =
    begins node × meet node × GoesAlong continues meet ends node nodes

-- the same, and no walk of fewer items leads to an end
pub record IsShortestWalk (begins : Node → Type 0) (continues : Node → Node → Type 0)
    (meet : Node → Type 0) (ends : Node → Type 0) (nodes : List Node) : Type 0 where
  pub walk : IsWalkOf begins continues meet ends nodes
  pub few : length nodes < 2 ^ 32
  pub none : (fewer : ℕ) → fewer < length nodes → EndsAfter begins continues meet ends fewer → ⊥
