-- For the prover. The bytes of one read, as the contracts of their buffer see them.
use Rattle.std.specs.Prelude.{ℕ, List}

-- the line that was cut off last, and the bytes that are not cut into lines yet
pub record Chunked : Type 0 where
  pub line : List ℕ
  pub unread : List ℕ
