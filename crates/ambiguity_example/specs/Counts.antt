-- For the prover. How many nodes of a walk have a phase.
use Rattle.std.specs.Prelude.{ℕ, ◌+◌, List, [], ◌∷◌}
use Rattle.ambiguity_check.specs.declared.graph.Node.{Node}
use Rattle.ambiguity_check.specs.declared.graph.Phase.{Phase}
use Rattle.ambiguity_check.specs.declared.graph.Phase.TheVariants.{Together, Parted, Rejoined}

-- 1 if the phases are the same, and else 0
abbrev pub is_same : Phase → Phase → ℕ
is_same Together Together = 1
is_same Parted Parted = 1
is_same Rejoined Rejoined = 1
is_same _ _ = 0

-- how many of the nodes have it
abbrev pub count_in : Phase → List Node → ℕ
count_in phase [] = 0
count_in phase (node ∷ nodes) = is_same phase node.phase + count_in phase nodes
