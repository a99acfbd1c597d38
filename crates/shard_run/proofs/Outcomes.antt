-- From what was written to what came of a command.
use Rattle.std.proofs.Common.{◌≡◌, ◌↔◌, inl, inr, ℕ, List, Option, Some, None, Result, Ok, Err}
use Rattle.std.proofs.Common.{IfOk, refl, ap, subst}
use Rattle.std.specs.declared.alloc.AllocError.{AllocError}
use Rattle.std.specs.Io.KnownBytes.{Appends}
use Rattle.io_edge.specs.Taken.{TakesFewer, TakesFirst}
use Rattle.io_edge.specs.Written.{AppendsSome}
use Rattle.language_base.specs.declared.span.Span.{Span}
use Rattle.key_shards.specs.Collections.{Collection}
use Rattle.query_compiler.specs.QueryRead.{ReadsNone, max_read}
use Rattle.query_model.specs.Monitors.{Monitor}
use Rattle.stream_run.specs.Outside.{Outside}
use Rattle.stream_run.specs.Written.{Refuses, Reported}
use Rattle.stream_run.specs.declared.status.Status.{Status}
use Rattle.stream_run.specs.declared.status.Status.TheVariants.{Done, Refused, Usage, QueryFault}
use Rattle.stream_run.specs.declared.status.Status.TheVariants.{ItemFault, SinkFault, Memory, Limit}
use Rattle.shard_run.specs.Call.{Carries, Outcome, OutcomeOf, carries, refuses, unknown}
use Rattle.shard_run.specs.Pieces.{IsRefusal, IsReplyFor}
use Rattle.shard_run.specs.Replied.{Replied}
use Rattle.shard_run.specs.Verdicts.{IsAccepted}
use Rattle.shard_run.specs.declared.command.Command.{Command}
use Rattle.shard_run.specs.declared.command.Command.TheVariants as asks
use Rattle.shard_run.specs.declared.command.Piece.{Piece}
use Rattle.shard_run.specs.declared.reply.Reply.{Reply}
use Rattle.shard_run.specs.declared.reply.Reply.TheVariants.{Text, Refusal}

-- a reply to a command that asks for a query of a collect
pub replied_piece : (piece : Piece) (monitor : Monitor) (place : Span) (text : List ℕ)
    → IsAccepted text monitor place → (status : Status) (reply : Result Reply AllocError)
    (old : Outside) (taken : Option (List ℕ)) → IfOk reply (IsReplyFor piece monitor place)
    → Replied status reply old.taken taken
    → Outcome (asks.Text piece) text status old (record old { taken = taken })
replied_piece piece monitor place text accepted Done (Ok (Text bytes)) old taken
    (given, is, made, same) replied =
    carries monitor place given accepted is
    (made, (refl, subst (Appends old.taken taken) same replied))
replied_piece piece monitor place text accepted SinkFault (Ok (Text bytes)) old taken
    (given, is, made, same) replied =
    carries monitor place given accepted is
    (made, (refl, subst (AppendsSome old.taken taken) same replied))
replied_piece piece monitor place text accepted Refused (Ok (Refusal line)) old taken is replied =
    refuses line (is text accepted) (refl, replied)
replied_piece piece monitor place text accepted SinkFault (Ok (Refusal line)) old taken is replied =
    refuses line (is text accepted) (refl, replied)
replied_piece piece monitor place text accepted Memory (Err error) old taken is replied =
    unknown refl (ap (λ (t : Option (List ℕ)). record old { taken = t }) replied)
replied_piece piece monitor place text accepted status reply old taken is replied = absurd replied

-- a refusal
pub replied_refusal : (command : Command) (text line : List ℕ) → IsRefusal command text line
    → (status : Status) (reply : Result Reply AllocError) (old : Outside)
    (taken : Option (List ℕ)) → IfOk reply (λ said. said ≡ Refusal line)
    → Replied status reply old.taken taken
    → Outcome command text status old (record old { taken = taken })
replied_refusal command text line refusal Refused (Ok (Refusal written)) old taken is replied =
    let same : written ≡ line = cc in
    refuses line refusal (refl, subst (Appends old.taken taken) same replied)
replied_refusal command text line refusal SinkFault (Ok (Refusal written)) old taken is replied =
    let same : written ≡ line = cc in
    refuses line refusal (refl, subst (AppendsSome old.taken taken) same replied)
replied_refusal command text line refusal status (Ok (Text bytes)) old taken is replied =
    absurd (cc)
replied_refusal command text line refusal Memory (Err error) old taken is replied =
    unknown refl (ap (λ (t : Option (List ℕ)). record old { taken = t }) replied)
replied_refusal command text line refusal status reply old taken is replied = absurd replied

-- no command ends by the words or by a fault of the query
ends_otherwise : (command : Command) (monitor : Monitor) (given : Collection) (old new : Outside)
    → (Carries command monitor given Usage old new → ⊥)
    × (Carries command monitor given QueryFault old new → ⊥)
ends_otherwise (asks.Text piece) monitor given old new = (λ ended. ended.1, λ ended. ended.1)
ends_otherwise (asks.Route shards) monitor given old new = (λ ended. ended, λ ended. ended)

pub no_usage : (command : Command) (text : List ℕ) (old new : Outside)
    → Outcome command text Usage old new → ⊥
no_usage command text old new (refuses line is writes) = writes
no_usage command text old new (carries monitor place given accepted is does) =
    (ends_otherwise command monitor given old new).0 does
no_usage command text old new (unknown same kept) = absurd (cc)

no_query_fault : (command : Command) (text : List ℕ) (old new : Outside)
    → Outcome command text QueryFault old new → ⊥
no_query_fault command text old new (refuses line is writes) = writes
no_query_fault command text old new (carries monitor place given accepted is does) =
    (ends_otherwise command monitor given old new).1 does
no_query_fault command text old new (unknown same kept) = absurd (cc)

module _ (left left' : Option (List ℕ)) (ends ends' : ℕ) (old new : Outside) where
  -- what came of a command for the text that was read
  outcome_of : (command : Command) (text : List ℕ)
      → TakesFirst max_read left left' ends ends' text → (status : Status)
      → Outcome command text status old new
      → OutcomeOf left left' ends ends' old new (Some command) status
  outcome_of command text takes Done outcome = (text, takes, outcome)
  outcome_of command text takes Refused outcome = (text, takes, outcome)
  outcome_of command text takes Usage outcome = no_usage command text old new outcome
  outcome_of command text takes QueryFault outcome =
      absurd (no_query_fault command text old new outcome)
  outcome_of command text takes ItemFault outcome = (text, takes, outcome)
  outcome_of command text takes SinkFault outcome = (text, takes, outcome)
  outcome_of command text takes Memory outcome = inr (text, takes, outcome)
  outcome_of command text takes Limit outcome = (text, takes, outcome)

  -- as it was asked for
  pub outcome_asked : (command : Command) (asked : Option Command) → Some command ≡ asked
      → (text : List ℕ) → TakesFirst max_read left left' ends ends' text → (status : Status)
      → Outcome command text status old new → OutcomeOf left left' ends ends' old new asked status
  outcome_asked command asked is text takes status outcome =
      subst (λ (a : Option Command). OutcomeOf left left' ends ends' old new a status) is
      (outcome_of command text takes status outcome)

  -- the query could not be read
  pub fault_asked : (command : Command) (asked : Option Command) → Some command ≡ asked
      → TakesFewer max_read left left' ends ends' → new ≡ old
      → OutcomeOf left left' ends ends' old new asked QueryFault
  fault_asked command asked is takes same =
      subst (λ (a : Option Command). OutcomeOf left left' ends ends' old new a QueryFault) is
      (takes, same)

  -- there was no memory to read it
  pub memory_asked : (command : Command) (asked : Option Command) → Some command ≡ asked
      → ReadsNone left left' ends ends' → new ≡ old
      → OutcomeOf left left' ends ends' old new asked Memory
  memory_asked command asked is none same =
      subst (λ (a : Option Command). OutcomeOf left left' ends ends' old new a Memory) is
      (inl (none, same))

  -- the words ask for nothing
  pub usage_asked : (asked : Option Command) → None ≡ asked → ReadsNone left left' ends ends'
      → new ≡ old → OutcomeOf left left' ends ends' old new asked Usage
  usage_asked asked is none same =
      subst (λ (a : Option Command). OutcomeOf left left' ends ends' old new a Usage) is
      (none, same)

-- words that ask for something are not refused for their form
pub asked_usage : (command : Command) (asked : Option Command) → Some command ≡ asked
    → (status : Status) → (status ≡ Usage → ⊥) → (status ≡ Usage) ↔ (asked ≡ None)
asked_usage command asked is status never = (λ same. absurd (never same), λ none. absurd (cc))

-- a command that was carried out does not end so
pub outcome_usage : (command : Command) (text : List ℕ) (status : Status) (old new : Outside)
    → Outcome command text status old new → status ≡ Usage → ⊥
outcome_usage command text status old new outcome is =
    no_usage command text old new
    (subst (λ (s : Status). Outcome command text s old new) is outcome)

-- from how a text was written, or a refusal, to what became of the reply
pub text_replied : (status : Status) (text : List ℕ) (old new : Option (List ℕ))
    → Reported status (Ok text) old new → Replied status (Ok (Text text)) old new
text_replied Done text old new wrote = wrote
text_replied SinkFault text old new wrote = wrote
text_replied status text old new wrote = absurd wrote

pub refusal_replied : (status : Status) (lines : List ℕ) (old new : Option (List ℕ))
    → Refuses status (Ok lines) old new → Replied status (Ok (Refusal lines)) old new
refusal_replied Refused lines old new wrote = wrote
refusal_replied SinkFault lines old new wrote = wrote
refusal_replied status lines old new wrote = absurd wrote
