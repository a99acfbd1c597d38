-- Statement. Two readings of one word, each by a rate of its own.
use Rattle.std.specs.Prelude.{◌≡◌, ℕ, List, slice_index}
use Rattle.rate_expr.specs.Paths.{Follows}
use Rattle.rate_expr.specs.Sets.{Sets, Has}
use Rattle.ambiguity_check.specs.declared.graph.Node.{Node}
use Rattle.ambiguity_check.specs.declared.graph.Phase.TheVariants.{Together}

-- both readings may begin at the node
abbrev pub BeginsBoth : Sets → Sets → Node → Type 0
BeginsBoth first second node =
    (node.phase ≡ Together) × Has first.first node.left × Has second.first node.right

-- one more item may lead from the first node to the second
abbrev pub FollowsBoth : Sets → Sets → Node → Node → Type 0
FollowsBoth first second before node = (node.phase ≡ Together)
    × Follows first before.left node.left × Follows second before.right node.right

-- the row of the left position has the right one
abbrev pub IsInRows : List ℕ → Node → Type 0
IsInRows rows node = Has (slice_index rows node.left) node.right

-- both readings may end at the node
abbrev pub EndsBoth : Sets → Sets → Node → Type 0
EndsBoth first second node =
    (node.phase ≡ Together) × Has first.last node.left × Has second.last node.right
