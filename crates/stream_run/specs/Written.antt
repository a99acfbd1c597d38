-- For the prover. What has become of a text that was to be written to the sink.
use Rattle.std.specs.Prelude.{◌≡◌, ℕ, List, Option, Some, None, Result, Ok, Err}
use Rattle.std.specs.declared.alloc.AllocError.{AllocError}
use Rattle.std.specs.Borrow.{Bor}
use Rattle.std.specs.Io.KnownBytes.{Appends}
use Rattle.io_edge.specs.Written.{AppendsSome}
use Rattle.stream_run.specs.declared.status.Status.{Status}
use Rattle.stream_run.specs.declared.status.Status.TheVariants.{Done, Refused, SinkFault, Memory}

-- there is no status if the text was written whole, and SinkFault if only a part of it was. Out of
-- memory for the text the status is Memory, or SinkFault if the sink cannot be flushed.
abbrev pub Replied : Option Status → Result (Bor (List ℕ)) AllocError
    → Option (List ℕ) → Option (List ℕ) → Type 0
Replied None (Ok text) old new = Appends old new text.now
Replied (Some SinkFault) (Ok text) old new = AppendsSome old new text.now
Replied (Some Memory) (Err error) old new = new ≡ old
Replied (Some SinkFault) (Err error) old new = new ≡ old
Replied _ _ old new = ⊥

-- the one line of a call was written whole and flushed, or only a part of it; out of memory for the
-- line, nothing was written
abbrev pub Reported : Status → Result (List ℕ) AllocError → Option (List ℕ)
    → Option (List ℕ) → Type 0
Reported Done (Ok line) old new = Appends old new line
Reported SinkFault (Ok line) old new = AppendsSome old new line
Reported Memory (Err error) old new = new ≡ old
Reported SinkFault (Err error) old new = new ≡ old
Reported _ _ old new = ⊥

-- the lines of a refusal were written whole and flushed, or only a part of them; out of memory for
-- them, nothing was written
abbrev pub Refuses : Status → Result (List ℕ) AllocError → Option (List ℕ)
    → Option (List ℕ) → Type 0
Refuses Refused (Ok lines) old new = Appends old new lines
Refuses SinkFault (Ok lines) old new = AppendsSome old new lines
Refuses Memory (Err error) old new = new ≡ old
Refuses _ _ old new = ⊥
