-- Statement. What a call of `view` did, by its status.
use Rattle.std.specs.Prelude.{◌≡◌, ◌⊎◌, ℕ, List, Option, Some, None, Result, IfOk, IfSome}
use Rattle.std.specs.declared.alloc.AllocError.{AllocError}
use Rattle.io_edge.specs.Taken.{TakesFewer}
use Rattle.language_base.specs.declared.refusal.Refusal.{Refusal}
use Rattle.query_compiler.specs.Compiled.{Compiles, KeepsRules}
use Rattle.query_compiler.specs.QueryRead.{ReadsNone, ReadsText, max_read}
use Rattle.query_model.specs.Monitors.{Monitor}
use Rattle.report_writer.specs.Texts.{refusal_text}
use Rattle.stream_run.specs.Outside.{Outside}
use Rattle.stream_run.specs.Written.{Refuses}
use Rattle.stream_run.specs.declared.status.Status.{Status}
use Rattle.stream_run.specs.declared.status.Status.TheVariants.{Refused, Usage, QueryFault}
use Rattle.stream_run.specs.declared.status.Status.TheVariants.{Memory}
use Rattle.type_checker.specs.Judged.{accepted, refused}
use Rattle.view_run.specs.Outputs.{Carries}
use Rattle.view_run.specs.declared.command.Command.{Command}
use Rattle.view_run.specs.declared.command.Command.TheVariants.{View, Units}

-- the line of a refusal was written whole, in part, or not at all, and no item was read
abbrev pub WritesRefusal : Refusal → Status → Outside → Outside → Type 0
WritesRefusal why status old new = (new ≡ record old { taken = new.taken })
    × (line : Result (List ℕ) AllocError) × IfOk line (λ text. text ≡ refusal_text why)
    × Refuses status line old.taken new.taken

-- What came of a command for a query, whose text is this, if it is known. Out of memory it may not
-- be known what the text is.
pub data Outcome (command : Command) (text : Option (List ℕ)) (status : Status) (old new : Outside)
    : Type 0 where
  refuses : (why : Refusal) → IfSome text (λ bytes. Compiles bytes (refused why))
      → WritesRefusal why status old new → Outcome command text status old new
  carries : (monitor : Monitor) → IfSome text (λ bytes. Compiles bytes (accepted monitor))
      → KeepsRules monitor → Carries command monitor status old new
      → Outcome command text status old new
  unknown : status ≡ Memory → new ≡ old → Outcome command text status old new

-- no item is read but for a view of a query that can be run
abbrev pub LeavesItems : {S : Type 0} → Option Command → Status → S → S → Type 0
LeavesItems None status items items' = items' ≡ items
LeavesItems (Some Units) status items items' = items' ≡ items
LeavesItems (Some (View form digits)) Usage items items' = items' ≡ items
LeavesItems (Some (View form digits)) QueryFault items items' = items' ≡ items
LeavesItems (Some (View form digits)) Refused items items' = items' ≡ items
LeavesItems (Some (View form digits)) status items items' = Unit {0}

-- What was read of the query, to its first end or until there were too many bytes, and what came of
-- the command for it: `left` and `ends` of the query, and the rest as `old`, before the call, and
-- `left'`, `ends'` and `new` after it.
module _ (left left' : Option (List ℕ)) (ends ends' : ℕ) (old new : Outside) where
  abbrev pub OutcomeOf : Option Command → Status → Type 0
  OutcomeOf None status = ReadsNone left left' ends ends' × (new ≡ old)
  OutcomeOf (Some command) Usage = ⊥
  OutcomeOf (Some command) QueryFault = TakesFewer max_read left left' ends ends' × (new ≡ old)
  OutcomeOf (Some command) Memory =
      (ReadsNone left left' ends ends' ⊎ ReadsText left left' ends ends')
      × Outcome command left Memory old new
  OutcomeOf (Some command) status =
      ReadsText left left' ends ends' × Outcome command left status old new
