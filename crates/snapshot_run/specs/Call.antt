-- Statement. What a call of `snapshot` read of its query or its snapshot, and what came of it.
use Rattle.std.specs.Prelude.{◌≡◌, ℕ, List, Option, Some, None}
use Rattle.query_compiler.specs.QueryRead as query
use Rattle.saved_run.specs.Opened as opened
use Rattle.stream_run.specs.Outside.{Outside}
use Rattle.stream_run.specs.declared.status.Status.TheVariants.{QueryFault}
use Rattle.snapshot_run.specs.GoingOn.{GoesOn}
use Rattle.snapshot_run.specs.Saving.{SavesText}
use Rattle.snapshot_run.specs.SourceRead.{ReadsSource}
use Rattle.snapshot_run.specs.declared.command.Command.{Command}
use Rattle.snapshot_run.specs.declared.command.Command.TheVariants.{Save, GoOn}
use Rattle.snapshot_run.specs.declared.exit.Exit.{Exit}
use Rattle.snapshot_run.specs.declared.exit.Exit.TheVariants.{Plain}

-- the most bytes that are read of it: one more than it may have
abbrev pub limit_of : Command → ℕ
limit_of Save = query.max_read
limit_of (GoOn onward) = opened.max_read

-- What was read of it, by what the words ask for and how the call ended. What was known of it
-- before and after the call are the bytes that are left, and the count of ends.
module _ (left left' : Option (List ℕ)) (ends ends' : ℕ) where
  abbrev pub ReadsFor : Option Command → Exit → Type 0
  ReadsFor None exit = query.ReadsNone left left' ends ends'
  ReadsFor (Some command) exit = ReadsSource (limit_of command) left left' ends ends' exit

-- What came of these bytes of it, by what the words ask for and how the call ended.
abbrev pub OutcomeOf : Option Command → List ℕ → Exit → Outside → Outside → Type 0
OutcomeOf None bytes exit old new = new ≡ old
OutcomeOf (Some command) bytes (Plain QueryFault) old new = new ≡ old
OutcomeOf (Some Save) bytes exit old new = SavesText bytes exit old new
OutcomeOf (Some (GoOn onward)) bytes exit old new = GoesOn onward bytes exit old new
