-- For the prover. Where the last line among some bytes ends.
use Rattle.std.specs.Prelude.{◌≡◌, ◌<◌, ◌≤◌, ℕ, ◌-◌, List, length, drop, slice_index}
use Rattle.io_edge.specs.Lines.{NoLf}

-- `end` is after the last LF, or 0 if there is none
pub record EndsLines (bytes : List ℕ) (end : ℕ) : Type 0 where
  pub within : end ≤ length bytes
  pub lf : 0 < end → slice_index bytes (end - 1) ≡ 10
  pub rest : NoLf (drop end bytes)
