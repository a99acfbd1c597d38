-- Statement. Sets of cells.
use Rattle.std.specs.Prelude.{ℕ, ◌+◌, Bool, List, [], ◌∷◌, if◌then◌else◌}

-- the numbers of the flags that are set, where the first flag has the number `at`
abbrev pub flagged_from : ℕ → List Bool → List ℕ
flagged_from at [] = []
flagged_from at (flag ∷ flags) =
    if flag then at ∷ flagged_from (at + 1) flags else flagged_from (at + 1) flags
