-- For the prover. The line under way, as the contracts of its buffer see it.
use Rattle.std.specs.Prelude.{◌≡◌, ◌≤◌, ℕ, List, length}
use Rattle.io_edge.specs.Limits.{max_line}

-- the line under way and the line answered last
pub record Started : Type 0 where
  -- the bytes of the line under way; if it is too long already, others of the same number
  pub start : List ℕ
  -- the bytes of the line answered last
  pub shown : List ℕ

-- both byte lists show the same line: they are equally long, and equal if the line is not too long
pub record StandsFor (bytes others : List ℕ) : Type 0 where
  pub count : length others ≡ length bytes
  pub same : length bytes ≤ max_line → others ≡ bytes
