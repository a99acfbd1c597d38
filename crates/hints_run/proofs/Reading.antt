-- What was read of the query, and what came of its whole text.
use Rattle.std.proofs.Common.{◌≡◌, ◌↔◌, ◌≤◌, inr, ℕ, List, length, Option, Some, None, IfSome, refl}
use Rattle.std.proofs.Common.{arith}
use Rattle.std.proofs.KnownBytes.{Consumes-whole}
use Rattle.std.specs.Io.KnownBytes.{IsAtEnd}
use Rattle.io_edge.specs.Taken.{TakesFirst}
use Rattle.language_base.specs.Limits.{max_text}
use Rattle.query_compiler.proofs.Compilations.{reported_query}
use Rattle.query_compiler.specs.Compiled.{Compiles, judged, unread}
use Rattle.query_compiler.specs.QueryRead.{max_read}
use Rattle.query_model.specs.Monitors.{Monitor, monitor_of}
use Rattle.stream_run.specs.Outside.{Outside}
use Rattle.stream_run.specs.declared.status.Status.{Status}
use Rattle.stream_run.specs.declared.status.Status.TheVariants.{Done, Refused, Usage, QueryFault}
use Rattle.stream_run.specs.declared.status.Status.TheVariants.{ItemFault, SinkFault, Memory, Limit}
use Rattle.type_checker.specs.Judged.{Verdict, accepted, refused}
use Rattle.hints_run.specs.Call.{Outcome, OutcomeOf, ReadsQuery, carries, refuses, unknown}
use Rattle.hints_run.specs.Past.{IsPastReading}
use Rattle.hints_run.specs.declared.command.Command.{Command}

-- a text that is compiled to a query is not too long
compiled_short : (text : List ℕ) (verdict : Verdict) (monitor : Monitor)
    → verdict ≡ accepted monitor → Compiles text verdict → length text ≤ max_text
compiled_short text _ monitor is (judged program verdict file was) = file.has.has.has.has.short
compiled_short text _ monitor is (unread why broken) = absurd (cc)

-- what holds of all bytes, holds of those that are left
all_left : (left : Option (List ℕ)) (Q : List ℕ → Type 0) → ((bytes : List ℕ) → Q bytes)
    → IfSome left Q
all_left (Some bytes) Q holds = holds bytes
all_left None Q holds = tt

-- and what follows from another fact of them
left_so : (left : Option (List ℕ)) (P Q : List ℕ → Type 0)
    → ((bytes : List ℕ) → P bytes → Q bytes) → IfSome left P → IfSome left Q
left_so (Some bytes) P Q so holds = so bytes holds
left_so None P Q so holds = tt

-- nothing came of the query where its words or its source failed
module _ (command : Command) (old new : Outside) where
  outcome_past : (text : List ℕ) (status : Status) → IsPastReading status
      → Outcome command text status old new → OutcomeOf (Some command) text status old new
  outcome_past text Done past came = came
  outcome_past text Refused past came = came
  outcome_past text Usage past came = absurd past
  outcome_past text QueryFault past came = absurd past
  outcome_past text ItemFault past came = came
  outcome_past text SinkFault past came = came
  outcome_past text Memory past came = came
  outcome_past text Limit past came = came

  module _ {left left' : Option (List ℕ)} {ends ends' : ℕ} (got : List ℕ)
      (takes : TakesFirst max_read left left' ends ends' got) where
    -- a text that is not too long was read to its end
    at_end : length got ≤ max_text → IsAtEnd left'
    at_end short = (takes.end.at_end (omega (arith, short))).1

    -- what came of the text that was read, came of the whole text
    whole : (status : Status) → Outcome command got status old new
        → IfSome left (λ text. Outcome command text status old new)
    whole status (refuses why compiles wrote) =
        left_so left _ _ (λ text is. refuses why is wrote)
        (reported_query left left' got (refused why) takes.consumed at_end compiles)
    whole status (carries on compiles kept does) =
        Consumes-whole left left' got (λ text. Outcome command text status old new) takes.consumed
        (at_end (compiled_short got (accepted (monitor_of on)) (monitor_of on) refl compiles))
        (carries on compiles kept does)
    whole status (unknown is same) = all_left left _ (λ text. unknown is same)

    pub outcome_of_read : (status : Status) → IsPastReading status
        → Outcome command got status old new
        → IfSome left (λ text. OutcomeOf (Some command) text status old new)
    outcome_of_read status past came =
        left_so left _ _ (λ text is. outcome_past text status past is) (whole status came)

-- how much was read
pub reads_past : {left left' : Option (List ℕ)} {ends ends' : ℕ} (got : List ℕ)
    → TakesFirst max_read left left' ends ends' got → (status : Status) → IsPastReading status
    → ReadsQuery left left' ends ends' status
reads_past got takes Done past = (got, takes)
reads_past got takes Refused past = (got, takes)
reads_past got takes Usage past = absurd past
reads_past got takes QueryFault past = absurd past
reads_past got takes ItemFault past = (got, takes)
reads_past got takes SinkFault past = (got, takes)
reads_past got takes Memory past = inr (got, takes)
reads_past got takes Limit past = (got, takes)

-- the words ask for something
pub past_usage : (command : Command) (status : Status) → IsPastReading status
    → (status ≡ Usage) ↔ (Some command ≡ None)
past_usage command Usage past = absurd past
past_usage command QueryFault past = absurd past
past_usage command status past = (λ is. absurd (cc), λ none. absurd (cc))
