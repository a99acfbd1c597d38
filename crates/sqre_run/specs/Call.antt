-- Statement. What a call of `sqre` did, by its status.
use Rattle.std.specs.Prelude.{◌≡◌, ◌⊎◌, ℕ, List, [], length, Option, Some, None, IfSome}
use Rattle.std.specs.Io.KnownBytes.{Appends, Consumes}
use Rattle.io_edge.specs.Counts.{FailsBy, Rose, next_count}
use Rattle.io_edge.specs.Limits.{max_count}
use Rattle.language_base.specs.declared.refusal.Refusal.{Refusal}
use Rattle.query_compiler.specs.Compiled.{Compiles, KeepsRulesIfAccepted, KeepsRules}
use Rattle.type_checker.specs.Judged.{Verdict, accepted, refused}
use Rattle.query_model.specs.Monitors.{Monitor}
use Rattle.stream_run.specs.Meanings.{IsMeaning, Meaning}
use Rattle.sqre_run.specs.Spoken.{Spoken, Reports, answering, output, refusing, whole_output}
use Rattle.sqre_run.specs.OneLine.{CompletesLine, WritesLine}
use Rattle.stream_run.specs.Outside.{MeetsOneAtMost, Outside, Wrote, WroteLines, WrotePart}
use Rattle.sqre_run.specs.Reasons.{WritesReason}
use Rattle.sqre_run.specs.declared.command.Command.{Command}
use Rattle.sqre_run.specs.declared.command.Command.TheVariants.{Run, Why}
use Rattle.stream_run.specs.declared.status.Status.{Status}
use Rattle.stream_run.specs.declared.status.Status.TheVariants.{Done, Refused, Usage, QueryFault}
use Rattle.stream_run.specs.declared.status.Status.TheVariants.{ItemFault, SinkFault, Memory, Limit}

-- A fault is reported only where the count of faults of its object is one more, and then the two
-- other counts have not changed. With every other status no count has changed.
pub record FirstFault (status : Status) (queries queries' items items' sinks sinks' : ℕ)
    : Type 0 where
  pub of_query : FailsBy queries queries' (status ≡ QueryFault)
  pub of_items : FailsBy items items' (status ≡ ItemFault)
  pub of_sink : FailsBy sinks sinks' (status ≡ SinkFault)

-- What has not changed: all three if the words ask for no command, items and sink if the query
-- source failed, the items if the query was refused.
abbrev pub Untouched : {Q S W : Type 0} → Status → Q → Q → S → S → W → W → Type 0
Untouched Usage query query' items items' out out' =
    (query' ≡ query) × (items' ≡ items) × (out' ≡ out)
Untouched QueryFault query query' items items' out out' = (items' ≡ items) × (out' ≡ out)
Untouched Refused query query' items items' out out' = items' ≡ items
Untouched _ query query' items items' out out' = Unit {0}

-- the text is compiled to a query with this monitor, and the run of it was as stated
abbrev pub Runs : List ℕ → (Monitor → Type 0) → Type 0
Runs text continues = (monitor : Monitor) × Compiles text (accepted monitor) × KeepsRules monitor
    × continues monitor

-- What `run` or `slow` read of the items and wrote for a query text, by the status.
abbrev pub Outcome : List ℕ → Status → Outside → Outside → Type 0
Outcome text Done old new = Runs text (λ monitor. Rose old.ends new.ends
    × ((meaning : Meaning) → IsMeaning monitor meaning → IfSome old.left (λ bytes.
    Appends old.taken new.taken (output (answering meaning) bytes))))
Outcome text Refused old new = (refusal : Refusal) × Compiles text (refused refusal)
    × (new.left ≡ old.left) × Appends old.taken new.taken (output (refusing refusal) [])
Outcome text Usage old new = new ≡ old
Outcome text QueryFault old new = new ≡ old
Outcome text ItemFault old new = Runs text (λ monitor.
    (got : List ℕ) × Wrote monitor old new got (λ meaning. whole_output (answering meaning) got))
Outcome text SinkFault old new = (query : Verdict) × (got : List ℕ) × Compiles text query
    × KeepsRulesIfAccepted query × Consumes old.left new.left got
    × ((spoken : Spoken) → Reports query spoken
    → WrotePart old new (output spoken got) (whole_output spoken got))
Outcome text Memory old new = (new ≡ old)
    ⊎ Runs text (λ monitor. (got : List ℕ) × WroteLines monitor old new got)
Outcome text Limit old new = Runs text (λ monitor. (got : List ℕ) × (length got ≡ max_count)
    × Wrote monitor old new got (λ meaning. whole_output (answering meaning) got))

-- How `run` or `slow` ends if nothing failed: a query at the end of its items or after 2^63-1 bytes
-- of them, and a text that is refused with its refusal. Usage and Memory may come with both.
abbrev pub Completes : Verdict → Status → Type 0
Completes query Usage = Unit {0}
Completes query Memory = Unit {0}
Completes (accepted monitor) Done = Unit {0}
Completes (accepted monitor) Limit = Unit {0}
Completes (refused refusal) Refused = Unit {0}
Completes query _ = ⊥

-- only `run` and `slow` read items
abbrev pub LeavesItems : {S : Type 0} → Option Command → S → S → Type 0
LeavesItems (Some (Run engine)) items items' = Unit {0}
LeavesItems command items items' = items' ≡ items

-- they are done only at the end of the items
abbrev pub EndsItems : Option Command → ℕ → ℕ → Type 0
EndsItems (Some (Run engine)) ends ends' = Rose ends ends'
EndsItems command ends ends' = Unit {0}

-- they do not read after the first end: they meet one if they are done, and none if the items fail
-- or have no end
abbrev pub ReadsToFirstEnd : Option Command → Status → ℕ → ℕ → Type 0
ReadsToFirstEnd (Some (Run engine)) Done ends ends' = ends' ≡ next_count ends
ReadsToFirstEnd (Some (Run engine)) SinkFault ends ends' = MeetsOneAtMost ends ends'
ReadsToFirstEnd (Some (Run engine)) Memory ends ends' = MeetsOneAtMost ends ends'
ReadsToFirstEnd command status ends ends' = ends' ≡ ends

-- What was read of the items and written for a query text, by what the words ask for.
abbrev pub OutcomeOf : Option Command → List ℕ → Status → Outside → Outside → Type 0
OutcomeOf (Some (Run engine)) text status old new = Outcome text status old new
OutcomeOf (Some Why) text status old new = WritesReason text status old.taken new.taken
OutcomeOf (Some command) text status old new = WritesLine command text status old.taken new.taken
OutcomeOf None text status old new = new ≡ old

-- How a call ends if nothing failed, by what the words ask for.
abbrev pub CompletesOf : Option Command → Verdict → Status → Type 0
CompletesOf (Some (Run engine)) query status = Completes query status
CompletesOf command query status = CompletesLine query status
