-- Statement. A source and a sink in memory: what they hold, and what each of their calls does.
use Rattle.std.specs.Prelude.{◌≡◌, ◌↔◌, ◌⊎◌, ℕ, ◌-◌, min, max, List, length, Result, IfOk, IsErr}
use Rattle.std.specs.Prelude.{nat_lt, if◌then◌else◌, slice_index}
use Rattle.std.specs.List.{Contains}
use Rattle.io_edge.specs.Counts.{next_count, CountsFault, CountsEnd}

-- What a source holds: the bytes to come, the most bytes of each read, the numbers of the reads
-- that fail, and its counts. Reads into a buffer that has room are numbered from 1.
pub record Held : Type 0 where
  pub left : List ℕ
  pub cuts : List ℕ
  pub fail_at : List ℕ
  pub calls : ℕ
  pub faults : ℕ
  pub ends : ℕ

-- the most bytes that a call takes after `calls` others: its room, or its cut if that is less,
-- where a cut of 0 counts as 1
abbrev pub room_at_call : List ℕ → ℕ → ℕ → ℕ
room_at_call cuts calls room =
    if nat_lt calls (length cuts) then min room (max 1 (slice_index cuts calls)) else room

-- one read of a source into a buffer that has room
pub record ReadsHeld {E : Type 0} (old new : Held) (result : Result ℕ E) (room : ℕ) : Type 0 where
  pub calls : new.calls ≡ next_count old.calls
  pub fails : IsErr result ↔ Contains old.fail_at new.calls
  pub count : IfOk result (λ n. n ≡ min (room_at_call old.cuts old.calls room) (length old.left))
  pub faults : CountsFault old.faults new.faults result
  pub ends : CountsEnd old.ends new.ends result
  pub cuts : new.cuts ≡ old.cuts
  pub fail_at : new.fail_at ≡ old.fail_at

-- What a sink holds: the bytes that it took, how many it takes in all, the most bytes of each
-- write, the numbers of the writes that fail, and its counts. Writes of at least one byte are
-- numbered from 1.
pub record Filled : Type 0 where
  pub taken : List ℕ
  pub room : ℕ
  pub cuts : List ℕ
  pub fail_at : List ℕ
  pub calls : ℕ
  pub faults : ℕ

-- one write of at least one byte to a sink
pub record WritesFilled {E : Type 0} (old new : Filled) (result : Result ℕ E) (size : ℕ)
    : Type 0 where
  pub calls : new.calls ≡ next_count old.calls
  pub fails : IsErr result ↔ (Contains old.fail_at new.calls ⊎ (old.room ≡ length old.taken))
  pub count : IfOk result (λ n. n ≡ min (room_at_call old.cuts old.calls size)
      (old.room - length old.taken))
  pub faults : CountsFault old.faults new.faults result
  pub room : new.room ≡ old.room
  pub cuts : new.cuts ≡ old.cuts
  pub fail_at : new.fail_at ≡ old.fail_at
