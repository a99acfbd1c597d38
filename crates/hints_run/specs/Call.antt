-- Statement. What a call of `hints` read of its query, and what came of it.
use Rattle.std.specs.Prelude.{◌≡◌, ◌⊎◌, ℕ, List, Option, Some, None, Result, IfOk}
use Rattle.std.specs.declared.alloc.AllocError.{AllocError}
use Rattle.io_edge.specs.Taken.{TakesFewer}
use Rattle.language_base.specs.declared.refusal.Refusal.{Refusal}
use Rattle.query_compiler.specs.Compiled.{Compiles, KeepsRules}
use Rattle.query_compiler.specs.QueryRead.{ReadsNone, ReadsText, max_read}
use Rattle.query_model.specs.Checked.{CheckedQuery}
use Rattle.query_model.specs.Monitors.{monitor_of}
use Rattle.report_writer.specs.Texts.{refusal_text}
use Rattle.stream_run.specs.Outside.{Outside}
use Rattle.stream_run.specs.Written.{Refuses, Reported}
use Rattle.stream_run.specs.declared.status.Status.{Status}
use Rattle.stream_run.specs.declared.status.Status.TheVariants.{QueryFault, Memory}
use Rattle.type_checker.specs.Judged.{accepted, refused}
use Rattle.dead_lines.specs.Reported.{ReportsDeadLine}
use Rattle.hints_run.specs.Hints.{AreHints}
use Rattle.hints_run.specs.declared.command.Command.{Command}
use Rattle.hints_run.specs.declared.command.Command.TheVariants.{Hints, Dead}

-- What was read of the query, by what the words ask for and how the call ended. What was known of
-- it before and after the call are the bytes that are left, and the count of ends.
module _ (left left' : Option (List ℕ)) (ends ends' : ℕ) where
  abbrev pub ReadsQuery : Status → Type 0
  ReadsQuery QueryFault = TakesFewer max_read left left' ends ends'
  ReadsQuery Memory = ReadsNone left left' ends ends' ⊎ ReadsText left left' ends ends'
  ReadsQuery status = ReadsText left left' ends ends'

  abbrev pub ReadsFor : Option Command → Status → Type 0
  ReadsFor None status = ReadsNone left left' ends ends'
  ReadsFor (Some command) status = ReadsQuery status

-- of the items nothing was read
abbrev pub ReadsNoItem : Outside → Outside → Type 0
ReadsNoItem old new = new ≡ record old { taken = new.taken }

-- the line of a refusal was written whole, in part, or not at all, and no item was read
abbrev pub WritesRefusal : Refusal → Status → Outside → Outside → Type 0
WritesRefusal why status old new = ReadsNoItem old new
    × (line : Result (List ℕ) AllocError) × IfOk line (λ text. text ≡ refusal_text why)
    × Refuses status line old.taken new.taken

-- so it is of what there is to report of a query with this text
abbrev pub WritesHints : List ℕ → CheckedQuery → Status → Outside → Outside → Type 0
WritesHints text on status old new = ReadsNoItem old new
    × (shown : Result (List ℕ) AllocError) × IfOk shown (AreHints text on)
    × Reported status shown old.taken new.taken

-- what a command does for a query with this text
abbrev pub Carries : Command → List ℕ → CheckedQuery → Status → Outside → Outside → Type 0
Carries Hints text on status old new = WritesHints text on status old new
Carries Dead text on status old new = ReportsDeadLine (monitor_of on) status old new

-- What came of a command for a query text. Out of memory it may not be known what the text is.
pub data Outcome (command : Command) (text : List ℕ) (status : Status) (old new : Outside)
    : Type 0 where
  refuses : (why : Refusal) → Compiles text (refused why) → WritesRefusal why status old new
      → Outcome command text status old new
  carries : (on : CheckedQuery) → Compiles text (accepted (monitor_of on))
      → KeepsRules (monitor_of on) → Carries command text on status old new
      → Outcome command text status old new
  unknown : status ≡ Memory → new ≡ old → Outcome command text status old new

-- What came of these bytes, by what the words ask for and how the call ended.
abbrev pub OutcomeOf : Option Command → List ℕ → Status → Outside → Outside → Type 0
OutcomeOf None bytes status old new = new ≡ old
OutcomeOf (Some command) bytes QueryFault old new = new ≡ old
OutcomeOf (Some command) bytes status old new = Outcome command bytes status old new
