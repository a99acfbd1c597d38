-- For the prover. Sources of queries are compiled one after the other.
use Rattle.std.specs.Prelude.{◌≡◌, ℕ, false, List, [], ◌∷◌, ◌++◌, map, Option, Err, Box}
use Rattle.std.specs.declared.alloc.Global.{Global}
use Rattle.query_compiler.specs.QueryRead.{ReadsFor}
use Rattle.query_compiler.specs.Stops.{IsStopOf}
use Rattle.query_compiler.specs.declared.query.QueryStop.{QueryStop}
use Rattle.query_compiler.specs.declared.query.QueryStop.TheVariants as stop
use Rattle.query_model.specs.Checked.{CheckedQuery}
use Rattle.query_model.specs.Monitors.{Monitor, monitor_of}
use Rattle.rate_expr.specs.Words.{Word}
use Rattle.report_writer.specs.Texts.{refusal_text}
use Rattle.stream_run.specs.declared.session.Session.{Session}
use Rattle.stream_run.specs.declared.status.Status.TheVariants.{Refused, QueryFault, Memory}
use Rattle.type_checker.specs.Blames.{refusal_of}
use Rattle.beside_run.specs.Endings.{EndsWith}
use Rattle.beside_run.specs.Queries.{IsQuery}
use Rattle.beside_run.specs.declared.exit.Exit.{Exit}
use Rattle.beside_run.specs.declared.exit.Exit.TheVariants.{Plain}

-- the queries, as they mean something
abbrev pub monitors_of : List (Box CheckedQuery Global) → List Monitor
monitors_of queries = map (λ query. monitor_of query.value) queries

-- a source was compiled to a query, which comes after those before it, and met no fault
pub record Adds {Q : Type 0} (left : Q → Option (List ℕ)) (ends faults : Q → ℕ) (old new : Q)
    (before after : List (Box CheckedQuery Global)) : Type 0 where
  pub query : Box CheckedQuery Global
  pub is : IsQuery left ends old new (monitor_of query.value)
  pub added : after ≡ before ++ query ∷ []
  pub same : faults new ≡ faults old

-- so much was read of a source, and this is why there is no query
abbrev pub IsStopAt : {Q : Type 0} → (Q → Option (List ℕ)) → (Q → ℕ) → QueryStop → Q → Q
    → Type 0
IsStopAt left ends why old new =
    ReadsFor (left old) (left new) (ends old) (ends new) {A = Unit {0}} (Err why)
    × IsStopOf (left old) why

-- so the call has ended for this reason, and this was written
abbrev pub EndsFor : QueryStop → Exit → Option (List ℕ) → Option (List ℕ) → Type 0
EndsFor stop.Failed exit old new = (exit ≡ Plain QueryFault) × (new ≡ old)
EndsFor (stop.Refused why) exit old new =
    EndsWith (refusal_text why) (Plain Refused) exit old new
EndsFor (stop.Ambiguous blame) exit old new =
    EndsWith (refusal_text (refusal_of blame.value)) (Plain Refused) exit old new
EndsFor stop.Memory exit old new = (exit ≡ Plain Memory) × (new ≡ old)

-- the session stands before the first line
pub record IsNew {F : Type 0} (follows : F → Word → Type 0) (session : Session F) : Type 0 where
  pub no_line : session.began ≡ false
  pub no_item : follows session.follower []

-- the queries of sessions, as they mean something
abbrev pub monitors_in : {F : Type 0} → List (Session F) → List Monitor
monitors_in sessions = map (λ session. monitor_of session.checked.now) sessions
