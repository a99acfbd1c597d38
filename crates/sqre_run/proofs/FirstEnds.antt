-- A call reads no item after the first end of the items.
use Rattle.std.proofs.Common.{◌≡◌, ℕ, List, Option, Some, ap, subst}
use Rattle.query_model.specs.Monitors.{Monitor}
use Rattle.sqre_run.specs.Call.{LeavesItems, ReadsToFirstEnd}
use Rattle.sqre_run.specs.Carried.{Carried}
use Rattle.stream_run.specs.Outside.{Ended, Outside, outside}
use Rattle.sqre_run.specs.declared.command.Command.{Command}
use Rattle.sqre_run.specs.declared.command.Command.TheVariants.{Run, Check, Bound, Why, Drill}
use Rattle.sqre_run.specs.declared.command.Command.TheVariants.{Rewrite}
use Rattle.sqre_run.specs.declared.command.Engine.{Engine}
use Rattle.stream_run.specs.declared.status.Status.{Status}
use Rattle.stream_run.specs.declared.status.Status.TheVariants.{Done, ItemFault, SinkFault, Memory}
use Rattle.stream_run.specs.declared.status.Status.TheVariants.{Limit}

-- a run, as it ended
run_reads : (engine : Engine) (monitor : Monitor) (status : Status) (old new : Outside)
    → Ended monitor status old new → ReadsToFirstEnd (Some (Run engine)) status old.ends new.ends
run_reads engine monitor Done old new ended = ended.0
run_reads engine monitor ItemFault old new ended = ended.0
run_reads engine monitor SinkFault old new ended = ended.0
run_reads engine monitor Memory old new ended = ended.0
run_reads engine monitor Limit old new ended = ended.0
run_reads engine monitor status old new ended = absurd ended

module _ {S W : Type 0} (left : S → Option (List ℕ)) (count : S → ℕ) (taken : W → Option (List ℕ))
    (items items' : S) (out out' : W) where
  -- each command, as it was carried out
  reads_carried : (command : Command) (monitor : Monitor) (status : Status)
      → Carried command monitor status (outside left count taken items out)
      (outside left count taken items' out') → LeavesItems (Some command) items items'
      → ReadsToFirstEnd (Some command) status (count items) (count items')
  reads_carried (Run engine) monitor status carried leaves =
      run_reads engine monitor status _ _ carried
  reads_carried Check monitor status carried leaves = ap count leaves
  reads_carried Bound monitor status carried leaves = ap count leaves
  reads_carried Why monitor status carried leaves = ap count leaves
  reads_carried (Drill amount seed) monitor status carried leaves = ap count leaves
  reads_carried Rewrite monitor status carried leaves = ap count leaves

  -- and as it was asked for
  pub reads_asked : (command : Command) (asked : Option Command) → Some command ≡ asked
      → (monitor : Monitor) (status : Status)
      → Carried command monitor status (outside left count taken items out)
      (outside left count taken items' out') → LeavesItems (Some command) items items'
      → ReadsToFirstEnd asked status (count items) (count items')
  reads_asked command asked is monitor status carried leaves =
      subst (λ (a : Option Command). ReadsToFirstEnd a status (count items) (count items')) is
      (reads_carried command monitor status carried leaves)
