-- What was read of a source, and what came of its bytes.
use Rattle.std.proofs.Common.{◌≤◌, ℕ, List, length, Option, Some, None, IfSome, refl, arith}
use Rattle.std.proofs.KnownBytes.{Consumes-whole}
use Rattle.std.specs.Io.KnownBytes.{IsAtEnd}
use Rattle.io_edge.specs.Taken.{TakesFirst}
use Rattle.language_base.specs.Limits.{max_text}
use Rattle.query_compiler.proofs.Compilations.{compiled_short, reported_query}
use Rattle.query_compiler.specs.QueryRead.{max_read}
use Rattle.stream_run.specs.Outside.{Outside}
use Rattle.stream_run.specs.declared.status.Status.TheVariants.{Done, Refused, Usage, QueryFault}
use Rattle.stream_run.specs.declared.status.Status.TheVariants.{ItemFault, SinkFault, Memory, Limit}
use Rattle.type_checker.specs.Judged.{accepted, refused}
use Rattle.snapshot_run.specs.Call.{OutcomeOf}
use Rattle.snapshot_run.specs.GoingOn.{GoesOn}
use Rattle.snapshot_run.specs.Past.{IsPastReading}
use Rattle.snapshot_run.specs.Saving.{SavesText, refuses, saves, unknown}
use Rattle.snapshot_run.specs.declared.command.Command.TheVariants.{Save, GoOn}
use Rattle.snapshot_run.specs.declared.command.Onward.{Onward}
use Rattle.snapshot_run.specs.declared.exit.Exit.{Exit}
use Rattle.snapshot_run.specs.declared.exit.Exit.TheVariants.{Plain, BadSnapshot}

-- what holds of all bytes, holds of those that are left
all_left : (left : Option (List ℕ)) (Q : List ℕ → Type 0) → ((bytes : List ℕ) → Q bytes)
    → IfSome left Q
all_left (Some bytes) Q holds = holds bytes
all_left None Q holds = tt

-- and what follows from another fact of them
pub left_so : (left : Option (List ℕ)) (P Q : List ℕ → Type 0)
    → ((bytes : List ℕ) → P bytes → Q bytes) → IfSome left P → IfSome left Q
left_so (Some bytes) P Q so holds = so bytes holds
left_so None P Q so holds = tt

module _ (exit : Exit) (old new : Outside) where
  -- what came of a query text that was read
  outcome_of_text : (text : List ℕ) → IsPastReading exit → SavesText text exit old new
      → OutcomeOf (Some Save) text exit old new
  outcome_of_text text = at exit
    where
      at : (exit : Exit) → IsPastReading exit → SavesText text exit old new
          → OutcomeOf (Some Save) text exit old new
      at (Plain Done) past came = came
      at (Plain Refused) past came = came
      at (Plain Usage) past came = absurd past
      at (Plain QueryFault) past came = absurd past
      at (Plain ItemFault) past came = came
      at (Plain SinkFault) past came = came
      at (Plain Memory) past came = came
      at (Plain Limit) past came = came
      at BadSnapshot past came = came

  -- and of a snapshot
  pub outcome_of_snapshot : (onward : Onward) (bytes : List ℕ) → IsPastReading exit
      → GoesOn onward bytes exit old new → OutcomeOf (Some (GoOn onward)) bytes exit old new
  outcome_of_snapshot onward bytes = at exit
    where
      at : (exit : Exit) → IsPastReading exit → GoesOn onward bytes exit old new
          → OutcomeOf (Some (GoOn onward)) bytes exit old new
      at (Plain Done) past goes = goes
      at (Plain Refused) past goes = goes
      at (Plain Usage) past goes = absurd past
      at (Plain QueryFault) past goes = absurd past
      at (Plain ItemFault) past goes = goes
      at (Plain SinkFault) past goes = goes
      at (Plain Memory) past goes = goes
      at (Plain Limit) past goes = goes
      at BadSnapshot past goes = goes

  module _ {left left' : Option (List ℕ)} {ends ends' : ℕ} (got : List ℕ)
      (takes : TakesFirst max_read left left' ends ends' got) where
    -- a text that is not too long was read to its end
    at_end : length got ≤ max_text → IsAtEnd left'
    at_end short = (takes.end.at_end (omega (arith, short))).1

    -- what came of the text that was read, came of the whole text
    saves_whole : SavesText got exit old new → IfSome left (λ text. SavesText text exit old new)
    saves_whole (refuses why compiles none ends) =
        left_so left _ _ (λ text whole. refuses why whole none ends)
        (reported_query left left' got (refused why) takes.consumed at_end compiles)
    saves_whole (saves monitor compiles kept concludes) =
        Consumes-whole left left' got (λ text. SavesText text exit old new) takes.consumed
        (at_end (compiled_short got (accepted monitor) monitor refl compiles))
        (saves monitor compiles kept concludes)
    saves_whole (unknown is same) = all_left left _ (λ text. unknown is same)

    pub outcome_of_read : IsPastReading exit → SavesText got exit old new
        → IfSome left (λ text. OutcomeOf (Some Save) text exit old new)
    outcome_of_read past came =
        left_so left _ _ (λ text came. outcome_of_text text past came) (saves_whole came)
