-- For the prover. The bytes that say what comes after them.
use Rattle.std.specs.Prelude.{◌==◌, ℕ, List, [], ◌∷◌, Option, find}
use Rattle.runner_snapshot.specs.Dumps.{Node, atom, eps, choice, split, iter, combine, apply}
use Rattle.runner_snapshot.specs.Dumps.{compose, collect}
use Rattle.runner_snapshot.specs.declared.tags.NodeTag.{NodeTag}
use Rattle.runner_snapshot.specs.declared.tags.NodeTag.TheVariants as node
use Rattle.runner_snapshot.specs.declared.tags.ValueTag.{ValueTag}
use Rattle.runner_snapshot.specs.declared.tags.ValueTag.TheVariants as value

-- the byte before a node
abbrev pub node_byte : NodeTag → ℕ
node_byte node.Atom = 1
node_byte node.Eps = 2
node_byte node.Or = 3
node_byte node.Split = 4
node_byte node.Iter = 5
node_byte node.Combine = 6
node_byte node.Apply = 7
node_byte node.Compose = 8
node_byte node.Collect = 9

abbrev pub node_tags : List NodeTag
node_tags =
    node.Atom ∷ node.Eps ∷ node.Or ∷ node.Split ∷ node.Iter ∷ node.Combine ∷ node.Apply
    ∷ node.Compose ∷ node.Collect ∷ []

-- the node that a byte says
abbrev pub node_tag : ℕ → Option NodeTag
node_tag byte = find (λ tag. node_byte tag == byte) node_tags

-- what a node is
abbrev pub tag_of : Node → NodeTag
tag_of (atom starts) = node.Atom
tag_of eps = node.Eps
tag_of (choice a b) = node.Or
tag_of (split a b entries) = node.Split
tag_of (iter a entries) = node.Iter
tag_of (combine a b) = node.Combine
tag_of (apply a) = node.Apply
tag_of (compose a _) = node.Compose
tag_of (collect _) = node.Collect

-- the byte before a value, or in the place of one
abbrev pub value_byte : ValueTag → ℕ
value_byte value.Number = 0
value_byte value.Overflow = 1
value_byte value.DivZero = 2
value_byte value.Table = 3
value_byte value.Rec = 4
value_byte value.Absent = 255

abbrev pub value_tags : List ValueTag
value_tags =
    value.Number ∷ value.Overflow ∷ value.DivZero ∷ value.Table ∷ value.Rec ∷ value.Absent ∷ []

-- the value that a byte says
abbrev pub value_tag : ℕ → Option ValueTag
value_tag byte = find (λ tag. value_byte tag == byte) value_tags
