-- Statement. Two factorings of one word whose first factors differ. The left reading has the
-- shorter one.
use Rattle.std.specs.Prelude.{◌≡◌, ◌⊎◌, ℕ}
use Rattle.rate_expr.specs.Paths.{Follows}
use Rattle.rate_expr.specs.Sets.{Sets, Has}
use Rattle.ambiguity_check.specs.declared.graph.Node.{Node}
use Rattle.ambiguity_check.specs.declared.graph.Phase.{Phase}
use Rattle.ambiguity_check.specs.declared.graph.Phase.TheVariants.{Together, Parted}

-- the one position may follow the other, in its word or at the beginning of a next word
abbrev pub FollowsInIteration : Sets → ℕ → ℕ → Type 0
FollowsInIteration sets before next =
    Follows sets before next ⊎ (Has sets.last before × Has sets.first next)

-- both readings may begin at the node
abbrev pub BeginsFactors : Sets → Node → Type 0
BeginsFactors sets node =
    (node.phase ≡ Together) × Has sets.first node.left × Has sets.first node.right

-- one more item may lead from these positions of a phase to the node: at first both readings are in
-- their first factors, then the left one ends its own, and from there on each continues by itself
abbrev pub FactorsOn : Sets → Phase → ℕ → ℕ → Node → Type 0
FactorsOn sets Together left right node =
    ((node.phase ≡ Together) × Follows sets left node.left × Follows sets right node.right)
    ⊎ (Has sets.last left × (node.phase ≡ Parted) × Has sets.first node.left
    × Follows sets right node.right)
FactorsOn sets _ left right node =
    (node.phase ≡ Parted) × FollowsInIteration sets left node.left
    × FollowsInIteration sets right node.right

-- one more item may lead from the first node to the second
abbrev pub Factors : Sets → Node → Node → Type 0
Factors sets before node = FactorsOn sets before.phase before.left before.right node

-- both readings may end at the node
abbrev pub EndsFactors : Sets → Node → Type 0
EndsFactors sets node = (node.phase ≡ Parted) × Has sets.last node.left × Has sets.last node.right
