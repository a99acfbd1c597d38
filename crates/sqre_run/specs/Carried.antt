-- For the prover. What a command has done for a query that is accepted or refused.
use Rattle.std.specs.Prelude.{◌≡◌, ℕ, List, Option}
use Rattle.std.specs.Io.KnownBytes.{Appends}
use Rattle.io_edge.specs.Written.{AppendsSome}
use Rattle.query_model.specs.Monitors.{Monitor}
use Rattle.sqre_run.specs.OneLine.{HoldsOfLine}
use Rattle.stream_run.specs.Outside.{Ended, Outside}
use Rattle.sqre_run.specs.declared.command.Command.{Command}
use Rattle.sqre_run.specs.declared.command.Command.TheVariants.{Run}
use Rattle.stream_run.specs.declared.status.Status.{Status}
use Rattle.stream_run.specs.declared.status.Status.TheVariants.{Done, Refused, SinkFault, Memory}

-- its line was written whole, in part, or not at all
abbrev pub LineCarried : Command → Monitor → Status → Option (List ℕ) → Option (List ℕ) → Type 0
LineCarried command monitor Done old new =
    HoldsOfLine command monitor (λ line. Appends old new line)
LineCarried command monitor SinkFault old new =
    HoldsOfLine command monitor (λ line. AppendsSome old new line)
LineCarried command monitor Memory old new = new ≡ old
LineCarried command monitor _ old new = ⊥

-- a run of the items ended, or the one line of another command was written
abbrev pub Carried : Command → Monitor → Status → Outside → Outside → Type 0
Carried (Run engine) monitor status old new = Ended monitor status old new
Carried command monitor status old new = LineCarried command monitor status old.taken new.taken

-- the lines of a refusal were written whole, in part, or not at all
abbrev pub RefusalCarried : (List ℕ → Type 0) → Status → Option (List ℕ) → Option (List ℕ) → Type 0
RefusalCarried Are Refused old new = (lines : List ℕ) × Are lines × Appends old new lines
RefusalCarried Are SinkFault old new = (lines : List ℕ) × Are lines × AppendsSome old new lines
RefusalCarried Are Memory old new = new ≡ old
RefusalCarried Are _ old new = ⊥
