-- Statement. Where the pieces of a word begin and end.
use Rattle.std.specs.Prelude.{◌≡◌, ◌+◌, ℕ, List, [], ◌∷◌, length}
use Rattle.std.specs.List.{AllByRecursion}
use Rattle.rate_expr.specs.Language.{In}
use Rattle.rate_expr.specs.Rates.{Regex}
use Rattle.rate_expr.specs.Words.{Word, join}

-- where pieces that follow one another from the place `at` on begin and end, counted in items
abbrev pub cuts_from : ℕ → List Word → List ℕ
cuts_from at [] = at ∷ []
cuts_from at (piece ∷ pieces) = at ∷ cuts_from (at + length piece) pieces

-- the cuts part the word into these pieces
pub record ArePieces (word : Word) (cuts : List ℕ) (pieces : List Word) : Type 0 where
  pub whole : join pieces ≡ word
  pub at : cuts_from 0 pieces ≡ cuts

-- they part it into words of the rate
abbrev pub PartsInto : Regex → Word → List ℕ → Type 0
PartsInto rate word cuts =
    (pieces : List Word) × ArePieces word cuts pieces × AllByRecursion (In rate) pieces
