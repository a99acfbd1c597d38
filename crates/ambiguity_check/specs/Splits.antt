-- Statement. Two splits of one word, of which the left one has the shorter first part.
use Rattle.std.specs.Prelude.{◌≡◌, ◌⊎◌, ℕ, true, List, slice_index}
use Rattle.item_schema.specs.declared.column.Column.{Column}
use Rattle.rate_expr.specs.Paths.{Follows}
use Rattle.rate_expr.specs.Sets.{Sets, Has}
use Rattle.ambiguity_check.specs.declared.graph.Node.{Node}
use Rattle.ambiguity_check.specs.declared.graph.Phase.{Phase}
use Rattle.ambiguity_check.specs.declared.graph.Phase.TheVariants.{Together, Parted, Rejoined}
use Rattle.ambiguity_check.specs.Meetings.{AreMeetings}

-- the sets of the part that the left reading is in
abbrev pub left_of : Sets → Sets → Phase → Sets
left_of first second Together = first
left_of first second Parted = second
left_of first second Rejoined = second

-- the sets of the part that the right reading is in
abbrev pub right_of : Sets → Sets → Phase → Sets
right_of first second Together = first
right_of first second Parted = first
right_of first second Rejoined = second

-- both readings may begin at the node: both in the first part, or the left one in the second if its
-- first part is empty
abbrev pub BeginsSplits : Sets → Sets → Node → Type 0
BeginsSplits first second node =
    ((node.phase ≡ Together) × Has first.first node.left × Has first.first node.right)
    ⊎ ((first.nullable ≡ true) × (node.phase ≡ Parted) × Has second.first node.left
    × Has first.first node.right)

-- one more item may lead from the first node to the second, and both readings stay in their parts
abbrev pub StaysIn : Sets → Sets → Node → Node → Type 0
StaysIn first second before node = (node.phase ≡ before.phase)
    × Follows (left_of first second before.phase) before.left node.left
    × Follows (right_of first second before.phase) before.right node.right

-- one of the readings ends its first part before the item: first the left one, later the right one
abbrev pub TurnsTo : Sets → Sets → Phase → ℕ → ℕ → Node → Type 0
TurnsTo first second Together left right node = Has first.last left
    × (node.phase ≡ Parted) × Has second.first node.left × Follows first right node.right
TurnsTo first second Parted left right node = Has first.last right
    × (node.phase ≡ Rejoined) × Follows second left node.left × Has second.first node.right
TurnsTo first second Rejoined left right node = ⊥

-- one more item may lead from the first node to the second
abbrev pub Continues : Sets → Sets → Node → Node → Type 0
Continues first second before node = StaysIn first second before node
    ⊎ TurnsTo first second before.phase before.left before.right node

-- the rows of a phase
abbrev pub rows_in : List ℕ → List ℕ → List ℕ → Phase → List ℕ
rows_in together parted rejoined Together = together
rows_in together parted rejoined Parted = parted
rows_in together parted rejoined Rejoined = rejoined

-- the row of the left position, in the phase of the node, has the right one
abbrev pub MeetIn : List ℕ → List ℕ → List ℕ → Node → Type 0
MeetIn together parted rejoined node =
    Has (slice_index (rows_in together parted rejoined node.phase) node.left) node.right

-- the rows of each phase are those of the two parts that are read in it
abbrev pub AreRows : List Column → Sets → Sets → List ℕ → List ℕ → List ℕ → Type 0
AreRows columns first second together parted rejoined = (phase : Phase)
    → AreMeetings columns (left_of first second phase) (right_of first second phase)
    (rows_in together parted rejoined phase)

-- both readings may end at the node: the right one with an empty second part, or both in the second
-- part
abbrev pub EndsSplits : Sets → Sets → Node → Type 0
EndsSplits first second node =
    ((node.phase ≡ Parted) × (second.nullable ≡ true) × Has second.last node.left
    × Has first.last node.right)
    ⊎ ((node.phase ≡ Rejoined) × Has second.last node.left × Has second.last node.right)
