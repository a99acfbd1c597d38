-- For the prover. Where the readings of a walk of factorings end their pieces.
use Rattle.std.specs.Prelude.{◌≡◌, ◌+◌, ◌⊎◌, ℕ, List, [], ◌∷◌}
use Rattle.rate_expr.specs.Paths.{Follows}
use Rattle.rate_expr.specs.Sets.{Sets}
use Rattle.ambiguity_check.specs.declared.graph.Node.{Node}
use Rattle.ambiguity_check.specs.declared.graph.Phase.TheVariants.{Together}
use Rattle.ambiguity_example.specs.declared.turns.Side.{Side}
use Rattle.ambiguity_example.specs.declared.turns.Side.TheVariants.{Left, Right}

-- the position of a reading
abbrev pub place_of : Side → Node → ℕ
place_of Left node = node.left
place_of Right node = node.right

-- the reading stays in its piece; the left one does not where the readings part
abbrev pub Stays : Sets → Side → Node → Node → Type 0
Stays sets Left before node = Follows sets before.left node.left
    × (before.phase ≡ Together → node.phase ≡ Together)
Stays sets Right before node = Follows sets before.right node.right

-- where the pieces end from a node on, before which there are `at` items
abbrev pub EndsFrom : Sets → Side → ℕ → Node → List Node → List ℕ → Type 0
EndsFrom sets side at node [] cuts = cuts ≡ at ∷ []
EndsFrom sets side at node (next ∷ nodes) cuts =
    ((Stays sets side node next → ⊥) × (rest : List ℕ) × (cuts ≡ at ∷ rest)
    × EndsFrom sets side (at + 1) next nodes rest)
    ⊎ (Stays sets side node next × EndsFrom sets side (at + 1) next nodes cuts)

-- the cuts of a reading of a walk
abbrev pub AreTurns : Sets → Side → List Node → List ℕ → Type 0
AreTurns sets side [] cuts = ⊥
AreTurns sets side (node ∷ nodes) cuts =
    (rest : List ℕ) × (cuts ≡ 0 ∷ rest) × EndsFrom sets side 1 node nodes rest
