-- Statement. What came of a call of `beside`.
use Rattle.std.specs.Prelude.{◌≡◌, ◌⊎◌, ℕ, List, Option, Some, None, IfSome, map}
use Rattle.io_edge.specs.Taken.{TakesFewer}
use Rattle.language_base.specs.declared.refusal.Refusal.{Refusal}
use Rattle.query_compiler.specs.Compiled.{Compiles}
use Rattle.query_compiler.specs.QueryRead.{ReadsNone, ReadsText, max_read}
use Rattle.query_model.specs.Monitors.{Monitor}
use Rattle.item_schema.specs.Layout.{Layout}
use Rattle.report_writer.specs.Texts.{refusal_text}
use Rattle.stream_run.specs.Outside.{Outside}
use Rattle.stream_run.specs.declared.status.Status.{Status}
use Rattle.stream_run.specs.declared.status.Status.TheVariants.{Refused, QueryFault, Memory}
use Rattle.type_checker.specs.Judged.{refused}
use Rattle.beside_run.specs.Endings.{EndsWith, ReadsNoItem}
use Rattle.beside_run.specs.Outputs.{Carries}
use Rattle.beside_run.specs.Queries.{AreQueries, StopsAt}
use Rattle.beside_run.specs.Streams.{AreOneStream, IsFirstOther, other_text}
use Rattle.beside_run.specs.declared.command.Command.{Command}
use Rattle.beside_run.specs.declared.exit.Exit.{Exit}
use Rattle.beside_run.specs.declared.exit.Exit.TheVariants.{Plain, OtherStream}

-- the streams of queries
abbrev pub streams_of : List Monitor → List Layout
streams_of monitors = map (λ monitor. monitor.layout) monitors

-- What came of a command for queries that are accepted.
pub data CarriedOut (command : Command) (monitors : List Monitor) (exit : Exit) (old new : Outside)
    : Type 0 where
  -- their streams are one, and the command was carried out
  carries : (status : Status) → exit ≡ Plain status → AreOneStream (streams_of monitors)
      → Carries command monitors status old new → CarriedOut command monitors exit old new
  -- one has another stream than the first, and its number was written
  differs : (number : ℕ) → IsFirstOther (streams_of monitors) number
      → ReadsNoItem old new
      → EndsWith (other_text number) OtherStream exit old.taken new.taken
      → CarriedOut command monitors exit old new

-- What is known of the sources of queries before and after a call: `left` and `ends` of each.
module _ {Q : Type 0} (left : Q → Option (List ℕ)) (ends : Q → ℕ) (olds news : List Q) where
  -- of the first source that is no query this is known
  abbrev pub Stopped : (Option (List ℕ) → Option (List ℕ) → ℕ → ℕ → Type 0) → Type 0
  Stopped Stops =
      StopsAt left ends (λ old new. Stops (left old) (left new) (ends old) (ends new)) olds news

  -- What came of a command.
  pub data Outcome (command : Command) (exit : Exit) (old new : Outside) : Type 0 where
    -- all queries are accepted
    accepts : (monitors : List Monitor) → AreQueries left ends olds news monitors
        → CarriedOut command monitors exit old new → Outcome command exit old new
    -- one is refused, and its refusal was written
    refuses : (why : Refusal)
        → Stopped (λ text text' count count'. ReadsText text text' count count'
        × IfSome text (λ bytes. Compiles bytes (refused why)))
        → ReadsNoItem old new
        → EndsWith (refusal_text why) (Plain Refused) exit old.taken new.taken
        → Outcome command exit old new
    -- one could not be read
    fails : Stopped (TakesFewer max_read) → exit ≡ Plain QueryFault → new ≡ old
        → Outcome command exit old new
    -- there was no memory to know whether one is accepted
    unknown : Stopped (λ text text' count count'. ReadsNone text text' count count'
        ⊎ ReadsText text text' count count')
        → exit ≡ Plain Memory → new ≡ old → Outcome command exit old new

  -- what came of what the words ask for
  abbrev pub OutcomeOf : Option Command → Exit → Outside → Outside → Type 0
  OutcomeOf None exit old new = (news ≡ olds) × (new ≡ old)
  OutcomeOf (Some command) exit old new = Outcome command exit old new
