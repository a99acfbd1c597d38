use Rattle.std.proofs.Common.{◌≡◌, ℕ, ◌<◌, List, [], ◌∷◌, length, refl, arith}
use Rattle.drawn_example.specs.Drawings.{parting}
use Rattle.drawn_example.proofs.pieces.+parting.Goals as goal

-- readings do not part where one of them has no cuts
none_there : (first second : List ℕ) → length second < 1 → 0 ≡ parting first second
none_there [] [] none = refl
none_there (cut ∷ cuts) [] none = refl
none_there first (other ∷ others) none = absurd (omega arith)

pub returns-in_default-2 : goal.returns-in_default-2
returns-in_default-2 t c = none_there c.args.first.now c.args.second.now (grind arith)
