-- For the prover. How a line under way is kept.
use Rattle.std.specs.Prelude.{◌≡◌, ◌<◌, ◌≤◌, ◌+◌, true, [], ◌++◌, replicate, vec_len, vec_capacity}
use Rattle.std.specs.Prelude.{if◌then◌else◌}
use Rattle.io_edge.specs.Limits.{max_count, max_line}
use Rattle.io_edge.specs.Started.{Started}
use Rattle.io_edge.specs.declared.partial_line.UnderWay.TheInside.{Inside}

-- the bytes kept, and a zero for each byte that was only counted; a line that was answered is no
-- longer under way
abbrev pub started_of : Inside → Started
started_of u = record {
  start = if u.is_shown then [] else u.bytes.items ++ replicate u.beyond 0;
  shown = u.bytes.items;
}

-- bytes are only counted if the line is too long, and there is room for any other line
pub record IsKept (u : Inside) : Type 0 where
  pub fits : vec_len u.bytes ≤ max_line
  pub room : max_line ≤ vec_capacity u.bytes
  pub too_long : 0 < u.beyond → max_line < vec_len u.bytes + u.beyond
  pub count : vec_len u.bytes + u.beyond ≤ max_count
  pub over : u.is_shown ≡ true → u.beyond ≡ 0
