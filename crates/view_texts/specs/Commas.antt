-- For the prover. What stands between the parts of a record and the entries of a table.
use Rattle.std.specs.Prelude.{ℕ, zero, suc, List, [], codes}

-- a comma before each but the first
abbrev pub comma_at : ℕ → List ℕ
comma_at zero = []
comma_at (suc place) = codes ","
