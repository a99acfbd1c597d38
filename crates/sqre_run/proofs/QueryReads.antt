-- From what was read of a query source to what a call says of it.
use Rattle.std.proofs.Common.{inr, ℕ, List, Option, Result}
use Rattle.std.specs.declared.alloc.AllocError.{AllocError}
use Rattle.sqre_run.specs.Carried.{Carried, LineCarried}
use Rattle.stream_run.specs.Written.{Refuses}
use Rattle.stream_run.specs.Outside.{Outside, Ended}
use Rattle.query_model.specs.Monitors.{Monitor}
use Rattle.query_compiler.specs.QueryRead.{ReadsText}
use Rattle.sqre_run.specs.QueryRead.{ReadsQuery}
use Rattle.sqre_run.specs.declared.command.Command.{Command}
use Rattle.sqre_run.specs.declared.command.Command.TheVariants.{Run, Check, Bound, Why, Drill}
use Rattle.sqre_run.specs.declared.command.Command.TheVariants.{Rewrite}
use Rattle.stream_run.specs.declared.status.Status.{Status}
use Rattle.stream_run.specs.declared.status.Status.TheVariants.{Done, Refused, Usage, QueryFault}
use Rattle.stream_run.specs.declared.status.Status.TheVariants.{ItemFault, SinkFault, Memory, Limit}

module _ (left left' : Option (List ℕ)) (ends ends' : ℕ)
    (reads : ReadsText left left' ends ends') where
  -- a run comes after the text
  pub reads_run : (monitor : Monitor) (status : Status) (old new : Outside)
      → Ended monitor status old new → ReadsQuery left left' ends ends' status
  reads_run monitor Done old new ended = reads
  reads_run monitor Refused old new ended = reads
  reads_run monitor Usage old new ended = absurd ended
  reads_run monitor QueryFault old new ended = absurd ended
  reads_run monitor ItemFault old new ended = reads
  reads_run monitor SinkFault old new ended = reads
  reads_run monitor Memory old new ended = inr reads
  reads_run monitor Limit old new ended = reads

  -- so does each command
  reads_line : (command : Command) (monitor : Monitor) (status : Status)
      (old new : Option (List ℕ)) → LineCarried command monitor status old new
      → ReadsQuery left left' ends ends' status
  reads_line command monitor Done old new carried = reads
  reads_line command monitor SinkFault old new carried = reads
  reads_line command monitor Memory old new carried = inr reads
  reads_line command monitor status old new carried = absurd carried

  pub reads_carried : (command : Command) (monitor : Monitor) (status : Status)
      (old new : Outside) → Carried command monitor status old new
      → ReadsQuery left left' ends ends' status
  reads_carried (Run engine) monitor status old new carried =
      reads_run monitor status old new carried
  reads_carried Check monitor status old new carried =
      reads_line Check monitor status old.taken new.taken carried
  reads_carried Bound monitor status old new carried =
      reads_line Bound monitor status old.taken new.taken carried
  reads_carried Why monitor status old new carried =
      reads_line Why monitor status old.taken new.taken carried
  reads_carried (Drill count seed) monitor status old new carried =
      reads_line (Drill count seed) monitor status old.taken new.taken carried
  reads_carried Rewrite monitor status old new carried =
      reads_line Rewrite monitor status old.taken new.taken carried

  -- and so does a refusal
  pub reads_refusal : (status : Status) (lines : Result (List ℕ) AllocError)
      (old new : Option (List ℕ)) → Refuses status lines old new
      → ReadsQuery left left' ends ends' status
  reads_refusal Refused lines old new refuses = reads
  reads_refusal SinkFault lines old new refuses = reads
  reads_refusal Memory lines old new refuses = inr reads
  reads_refusal status lines old new refuses = absurd refuses
