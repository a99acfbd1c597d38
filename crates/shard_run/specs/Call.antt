-- Statement. What a call of `shard` did, by its status.
use Rattle.std.specs.Prelude.{◌≡◌, ◌⊎◌, ℕ, List, Option, Some, None}
use Rattle.std.specs.Io.KnownBytes.{Appends}
use Rattle.io_edge.specs.Taken.{TakesFewer, TakesFirst}
use Rattle.io_edge.specs.Written.{AppendsSome}
use Rattle.language_base.specs.declared.span.Span.{Span}
use Rattle.key_shards.specs.Collections.{Collection, collection_in}
use Rattle.query_compiler.specs.QueryRead.{ReadsNone, max_read}
use Rattle.query_model.specs.Monitors.{Monitor}
use Rattle.query_text.specs.Programs.{text_of}
use Rattle.stream_run.specs.Endings.{EndedBy}
use Rattle.stream_run.specs.Outside.{Outside}
use Rattle.shard_run.specs.Pieces.{IsMade, IsRefusal, query_of}
use Rattle.shard_run.specs.Routes.{AreRoutes, routing_for}
use Rattle.shard_run.specs.Verdicts.{IsAccepted}
use Rattle.shard_run.specs.declared.command.Command.{Command}
use Rattle.shard_run.specs.declared.command.Command.TheVariants.{Text, Route}
use Rattle.stream_run.specs.declared.status.Status.{Status}
use Rattle.stream_run.specs.declared.status.Status.TheVariants.{Done, Refused, Usage, QueryFault}
use Rattle.stream_run.specs.declared.status.Status.TheVariants.{SinkFault, Memory}

-- the line of a refusal was written whole, in part, or not at all, and no item was read
abbrev pub WritesRefusal : List ℕ → Status → Outside → Outside → Type 0
WritesRefusal line Refused old new =
    (new ≡ record old { taken = new.taken }) × Appends old.taken new.taken line
WritesRefusal line SinkFault old new =
    (new ≡ record old { taken = new.taken }) × AppendsSome old.taken new.taken line
WritesRefusal line Memory old new = new ≡ old
WritesRefusal line _ old new = ⊥

-- a text was written so
abbrev pub WritesText : List ℕ → Status → Outside → Outside → Type 0
WritesText text Done old new =
    (new ≡ record old { taken = new.taken }) × Appends old.taken new.taken text
WritesText text SinkFault old new =
    (new ≡ record old { taken = new.taken }) × AppendsSome old.taken new.taken text
WritesText text Memory old new = new ≡ old
WritesText text _ old new = ⊥

-- what a command does for a collect on items that lie so in lines: the text of one of its queries
-- is written, if that is made, or for each line where it goes, as a run writes its answers
abbrev pub Carries : Command → Monitor → Collection → Status → Outside → Outside → Type 0
Carries (Text piece) monitor given status old new = IsMade piece monitor.query
    × WritesText (text_of monitor.layout (query_of piece given)) status old new
Carries (Route shards) monitor given status old new =
    EndedBy (AreRoutes (routing_for monitor.layout given shards)) status old new

-- What came of a command for a query text. Out of memory it may not be known what the text is.
pub data Outcome (command : Command) (text : List ℕ) (status : Status) (old new : Outside)
    : Type 0 where
  refuses : (line : List ℕ) → IsRefusal command text line → WritesRefusal line status old new
      → Outcome command text status old new
  carries : (monitor : Monitor) (place : Span) (given : Collection)
      → IsAccepted text monitor place → collection_in monitor.query ≡ Some given
      → Carries command monitor given status old new → Outcome command text status old new
  unknown : status ≡ Memory → new ≡ old → Outcome command text status old new

-- only `route` reads items
abbrev pub LeavesItems : {S : Type 0} → Option Command → S → S → Type 0
LeavesItems (Some (Route shards)) items items' = Unit {0}
LeavesItems command items items' = items' ≡ items

-- What was read of the query, to its first end or until there were too many bytes, and what came of
-- the command for it: `left` and `ends` of the query, and the rest as `old`, before the call, and
-- `left'`, `ends'` and `new` after it.
module _ (left left' : Option (List ℕ)) (ends ends' : ℕ) (old new : Outside) where
  abbrev pub ReadsText : Command → Status → Type 0
  ReadsText command status = (text : List ℕ) × TakesFirst max_read left left' ends ends' text
      × Outcome command text status old new

  abbrev pub ReadsNothing : Type 0
  ReadsNothing = ReadsNone left left' ends ends' × (new ≡ old)

  abbrev pub OutcomeOf : Option Command → Status → Type 0
  OutcomeOf None status = ReadsNothing
  OutcomeOf (Some command) Usage = ⊥
  OutcomeOf (Some command) QueryFault = TakesFewer max_read left left' ends ends' × (new ≡ old)
  OutcomeOf (Some command) Memory = ReadsNothing ⊎ ReadsText command Memory
  OutcomeOf (Some command) status = ReadsText command status
