-- For the prover. Whether cuts part a word into words of a rate, asked piece by piece.
use Rattle.std.specs.Prelude.{◌≡◌, ◌≤◌, ◌-◌, ℕ, List, [], ◌∷◌, length, take, drop}
use Rattle.rate_expr.specs.Language.{In}
use Rattle.rate_expr.specs.Rates.{Regex}
use Rattle.rate_expr.specs.Words.{Word}

-- the word, which begins at the place `at`, has a piece up to each cut; all pieces are in the rate,
-- and no item is left
abbrev pub PartsFrom : Regex → ℕ → Word → List ℕ → Type 0
PartsFrom rate at word [] = word ≡ []
PartsFrom rate at word (cut ∷ cuts) = (at ≤ cut) × (cut - at ≤ length word)
    × In rate (take (cut - at) word) × PartsFrom rate cut (drop (cut - at) word) cuts
