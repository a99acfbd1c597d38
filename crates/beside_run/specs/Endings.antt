-- Statement. What was written of the line with which a call ends that reads no item.
use Rattle.std.specs.Prelude.{◌≡◌, ℕ, List, Option}
use Rattle.std.specs.Io.KnownBytes.{Appends}
use Rattle.io_edge.specs.Written.{AppendsSome}
use Rattle.stream_run.specs.Outside.{Outside}
use Rattle.stream_run.specs.declared.status.Status.TheVariants.{Refused, Usage, QueryFault}
use Rattle.stream_run.specs.declared.status.Status.TheVariants.{SinkFault, Memory}
use Rattle.beside_run.specs.declared.exit.Exit.{Exit}
use Rattle.beside_run.specs.declared.exit.Exit.TheVariants.{Plain, OtherStream}

-- A call that was to end as `wanted` with this line has ended as `exit`.
pub data EndsWith (line : List ℕ) (wanted exit : Exit) (old new : Option (List ℕ)) : Type 0 where
  -- the line was written and flushed
  whole : exit ≡ wanted → Appends old new line → EndsWith line wanted exit old new
  -- a front of it was written, or it was not flushed
  part : exit ≡ Plain SinkFault → AppendsSome old new line → EndsWith line wanted exit old new
  -- there was no memory for it
  nothing : exit ≡ Plain Memory → new ≡ old → EndsWith line wanted exit old new

-- nothing was read of the items
abbrev pub ReadsNoItem : Outside → Outside → Type 0
ReadsNoItem old new = new ≡ record old { taken = new.taken }

-- no item is read where there are no queries to run together
abbrev pub LeavesItems : {S : Type 0} → Exit → S → S → Type 0
LeavesItems (Plain Usage) items items' = items' ≡ items
LeavesItems (Plain QueryFault) items items' = items' ≡ items
LeavesItems (Plain Refused) items items' = items' ≡ items
LeavesItems OtherStream items items' = items' ≡ items
LeavesItems exit items items' = Unit {0}
