-- For the prover. What has become of a reply.
use Rattle.std.specs.Prelude.{◌≡◌, ℕ, List, Option, Result, Ok, Err}
use Rattle.std.specs.declared.alloc.AllocError.{AllocError}
use Rattle.std.specs.Io.KnownBytes.{Appends}
use Rattle.io_edge.specs.Written.{AppendsSome}
use Rattle.stream_run.specs.declared.status.Status.{Status}
use Rattle.stream_run.specs.declared.status.Status.TheVariants.{Done, Refused, SinkFault, Memory}
use Rattle.shard_run.specs.declared.reply.Reply.{Reply}
use Rattle.shard_run.specs.declared.reply.Reply.TheVariants.{Text, Refusal}

-- a text or a refusal was written whole, or only a part of it; out of memory for it, nothing was
-- written
abbrev pub Replied : Status → Result Reply AllocError → Option (List ℕ) → Option (List ℕ) → Type 0
Replied Done (Ok (Text text)) old new = Appends old new text
Replied Refused (Ok (Refusal lines)) old new = Appends old new lines
Replied SinkFault (Ok (Text text)) old new = AppendsSome old new text
Replied SinkFault (Ok (Refusal lines)) old new = AppendsSome old new lines
Replied Memory (Err error) old new = new ≡ old
Replied _ _ old new = ⊥
