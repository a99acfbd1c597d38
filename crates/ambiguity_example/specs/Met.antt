-- Statement. Items that meet both positions of a node.
use Rattle.std.specs.Prelude.{ℕ, List, [], ◌∷◌}
use Rattle.std.specs.List.{AllByRecursion}
use Rattle.value_ops.specs.declared.field.Field.{Field}
use Rattle.item_schema.specs.declared.column.Column.{Column}
use Rattle.item_schema.specs.Items.{IsItemOf}
use Rattle.rate_expr.specs.Paths.{Meets}
use Rattle.rate_expr.specs.Sets.{Sets}
use Rattle.rate_expr.specs.Words.{Word}
use Rattle.ambiguity_check.specs.Meetings.{MeetOne}
use Rattle.ambiguity_check.specs.declared.graph.Node.{Node}
use Rattle.ambiguity_check.specs.declared.graph.Phase.{Phase}

-- the item meets a position of the first and one of the second
abbrev pub MeetsBoth : List Column → Sets → Sets → ℕ → ℕ → List Field → Type 0
MeetsBoth columns first second left right item =
    IsItemOf columns item × Meets first left item × Meets second right item

-- each item of the word meets the positions of its node, in the sets that are read in the phase of
-- the node
abbrev pub AllMeet : List Column → (Phase → Sets) → (Phase → Sets) → List Node → Word → Type 0
AllMeet columns left right [] [] = Unit {0}
AllMeet columns left right (node ∷ nodes) (item ∷ items) =
    MeetsBoth columns (left node.phase) (right node.phase) node.left node.right item
    × AllMeet columns left right nodes items
AllMeet columns left right _ _ = ⊥

-- some item meets both positions of the node
abbrev pub HasItem : List Column → (Phase → Sets) → (Phase → Sets) → Node → Type 0
HasItem columns left right node =
    MeetOne columns (left node.phase) (right node.phase) node.left node.right

-- there is such an item for each node
abbrev pub HaveItems : List Column → (Phase → Sets) → (Phase → Sets) → List Node → Type 0
HaveItems columns left right nodes = AllByRecursion (HasItem columns left right) nodes
