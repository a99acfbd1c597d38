-- For the prover. What stands between the texts of a line.
use Rattle.std.specs.Prelude.{ℕ, zero, suc, List, [], codes}

-- a comma before each text but the first
abbrev pub comma_at : ℕ → List ℕ
comma_at zero = []
comma_at (suc place) = codes ","
