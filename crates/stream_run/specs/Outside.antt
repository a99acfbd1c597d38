-- Statement. What is known of the item source and the sink at a moment, and how a run ended between
-- two moments.
use Rattle.std.specs.Prelude.{◌≡◌, ◌⊎◌, ℕ, true, false, List, ◌++◌, length, Option, IfSome}
use Rattle.std.specs.Io.KnownBytes.{Appends, Consumes}
use Rattle.io_edge.specs.Counts.{Rose, next_count}
use Rattle.io_edge.specs.Limits.{max_count}
use Rattle.io_edge.specs.Lines.{Shown, lines}
use Rattle.io_edge.specs.Written.{AppendsSome}
use Rattle.query_model.specs.Monitors.{Monitor}
use Rattle.stream_run.specs.Meanings.{IsMeaning, Meaning}
use Rattle.stream_run.specs.Output.{answers}
use Rattle.stream_run.specs.declared.status.Status.{Status}
use Rattle.stream_run.specs.declared.status.Status.TheVariants.{Done, Refused, Usage, QueryFault}
use Rattle.stream_run.specs.declared.status.Status.TheVariants.{ItemFault, SinkFault, Memory, Limit}

-- the item bytes that are left and the bytes that the sink took, where source and sink report
-- these, and how often the item source has met its end
pub record Outside : Type 0 where
  pub left : Option (List ℕ)
  pub ends : ℕ
  pub taken : Option (List ℕ)

-- what an item source and a sink report, by the members of their traits
abbrev pub outside : {S W : Type 0} → (S → Option (List ℕ)) → (S → ℕ) → (W → Option (List ℕ))
    → S → W → Outside
outside left ends taken items out =
    record { left = left items; ends = ends items; taken = taken out }

-- The bytes `got` were read and exactly this was written, whatever function gives the values of the
-- monitor's query.
pub record Wrote (monitor : Monitor) (old new : Outside) (got : List ℕ) (written : Meaning → List ℕ)
    : Type 0 where
  pub read : Consumes old.left new.left got
  pub wrote : (meaning : Meaning) → IsMeaning monitor meaning
      → Appends old.taken new.taken (written meaning)

-- for the bytes read, the answers to the whole lines among them were written, and nothing for a
-- partial line
pub record WroteLines (monitor : Monitor) (old new : Outside) (got : List ℕ) : Type 0 where
  pub some : List Shown
  pub others : List Shown
  pub whole : lines got false ≡ some ++ others
  pub wrote : Wrote monitor old new got (λ meaning. answers meaning some)

-- a front of `all` was written, or one of `whole` if the end of the items was not met
pub record WrotePart (old new : Outside) (all whole : List ℕ) : Type 0 where
  pub part : AppendsSome old.taken new.taken all
  pub no_end : (Rose old.ends new.ends → ⊥) → AppendsSome old.taken new.taken whole

-- no end was met, or one
abbrev pub MeetsOneAtMost : ℕ → ℕ → Type 0
MeetsOneAtMost ends ends' = (ends' ≡ ends) ⊎ (ends' ≡ next_count ends)

-- How a run of a query ended, by its status. A run knows no query text; the `Outcome` of a call
-- says the same by that text. Usage, a fault of the query and a refusal come before any run. After
-- the first end of the items nothing is read.
abbrev pub Ended : Monitor → Status → Outside → Outside → Type 0
Ended monitor Done old new = (new.ends ≡ next_count old.ends)
    × ((meaning : Meaning) → IsMeaning monitor meaning → IfSome old.left (λ bytes.
    Appends old.taken new.taken (answers meaning (lines bytes true))))
Ended monitor ItemFault old new = (new.ends ≡ old.ends) × (got : List ℕ)
    × Wrote monitor old new got (λ meaning. answers meaning (lines got false))
Ended monitor SinkFault old new = MeetsOneAtMost old.ends new.ends × (got : List ℕ)
    × Consumes old.left new.left got × ((meaning : Meaning) → IsMeaning monitor meaning
    → WrotePart old new (answers meaning (lines got true)) (answers meaning (lines got false)))
Ended monitor Memory old new = MeetsOneAtMost old.ends new.ends × (got : List ℕ)
    × WroteLines monitor old new got
Ended monitor Limit old new = (new.ends ≡ old.ends) × (got : List ℕ) × (length got ≡ max_count)
    × Wrote monitor old new got (λ meaning. answers meaning (lines got false))
Ended monitor Usage old new = ⊥
Ended monitor QueryFault old new = ⊥
Ended monitor Refused old new = ⊥
