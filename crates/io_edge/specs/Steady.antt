-- Statement. A source and a sink in memory that never fail: what each of their calls does.
use Rattle.std.specs.Prelude.{◌≡◌, ℕ, ◌+◌, ◌-◌, ◌^◌, List, length, min, Result, Ok}
use Rattle.io_edge.specs.Counts.{CountsEnd}

-- what a source holds: the bytes to come, and how often it has met their end
pub record Unread : Type 0 where
  pub left : List ℕ
  pub ends : ℕ

-- one read into a buffer that has room: it gives all bytes to come, or as many as fill the buffer
pub record ReadsSteadily {E : Type 0} (old new : Unread) (result : Result ℕ E) (room : ℕ)
    : Type 0 where
  pub count : result ≡ Ok (min room (length old.left))
  pub ends : CountsEnd old.ends new.ends result

-- one write to a sink that counts its bytes: it takes all, and adds their number to the count,
-- which stays at its greatest value
pub record WritesSteadily {E : Type 0} (old new : ℕ) (result : Result ℕ E) (size : ℕ) : Type 0 where
  pub whole : result ≡ Ok size
  pub count : new ≡ min (old + size) (2 ^ 64 - 1)
