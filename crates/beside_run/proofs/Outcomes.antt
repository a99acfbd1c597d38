-- From what was done for queries to what came of a call.
use Rattle.std.proofs.Common.{◌≡◌, inl, ℕ, List, [], Option, Some, None}
use Rattle.std.proofs.Common.{IfSome, refl, sym, ap, subst, ◌∙◌}
use Rattle.std.proofs.KnownBytes.{Appends-nil, Consumes-nil}
use Rattle.std.specs.Prelude.{Box}
use Rattle.std.specs.declared.alloc.Global.{Global}
use Rattle.language_base.specs.declared.refusal.Refusal.{Refusal}
use Rattle.query_compiler.specs.Compiled.{Compiles, judged}
use Rattle.query_compiler.specs.Stops.{IsBlamedIn, IsRefusedBy}
use Rattle.query_compiler.specs.declared.query.QueryStop.{QueryStop}
use Rattle.query_compiler.specs.declared.query.QueryStop.TheVariants as stop
use Rattle.query_model.specs.Checked.{CheckedQuery}
use Rattle.query_model.specs.Monitors.{Monitor}
use Rattle.query_parser.specs.Reading.{IsFileOf}
use Rattle.query_syntax.specs.Files.{program_terms}
use Rattle.stream_run.specs.Endings.{EndedBy}
use Rattle.stream_run.specs.Outside.{Outside}
use Rattle.stream_run.specs.declared.status.Status.{Status}
use Rattle.stream_run.specs.declared.status.Status.TheVariants.{Usage, QueryFault}
use Rattle.stream_run.specs.declared.status.Status.TheVariants.{Memory}
use Rattle.type_checker.specs.Blames.{refusal_of}
use Rattle.type_checker.specs.Judged.{refused}
use Rattle.type_checker.specs.declared.blame.Blame.{Blame}
use Rattle.type_checker.proofs.Judging.{blame_refused}
use Rattle.beside_run.specs.Call.{CarriedOut, Outcome, OutcomeOf, fails, refuses}
use Rattle.beside_run.specs.Call.{unknown}
use Rattle.beside_run.specs.Commands.{HasQueries}
use Rattle.beside_run.specs.Compiling.{EndsFor, IsStopAt, monitors_of}
use Rattle.beside_run.specs.Endings.{ReadsNoItem}
use Rattle.beside_run.specs.Outputs.{AreBesides, Carries}
use Rattle.beside_run.specs.Queries.{OneFailsBy, StopsAt}
use Rattle.beside_run.specs.declared.command.Command.{Command}
use Rattle.beside_run.specs.declared.command.Command.TheVariants.{Beside}
use Rattle.beside_run.specs.declared.exit.Exit.{Exit}
use Rattle.beside_run.specs.declared.exit.Exit.TheVariants.{Plain}
use Rattle.beside_run.proofs.Stops.{all_same, stops_so}

-- what holds of a text that is known, where it follows from another fact
text_so : (text : Option (List ℕ)) (P Q : List ℕ → Type 0) → ((bytes : List ℕ) → P bytes → Q bytes)
    → IfSome text P → IfSome text Q
text_so (Some bytes) P Q so holds = so bytes holds
text_so None P Q so holds = tt

-- a refusal by a rule that forbids no words with two readings
refused_text : (text : Option (List ℕ)) (why : Refusal) → IfSome text (IsRefusedBy why)
    → IfSome text (λ bytes. Compiles bytes (refused why))
refused_text text why = text_so text (IsRefusedBy why) (λ bytes. Compiles bytes (refused why))
    (λ bytes is. is.0)

-- and by one that forbids them
blamed_text : (text : Option (List ℕ)) (blame : Blame) → IsBlamedIn text blame
    → IfSome text (λ bytes. Compiles bytes (refused (refusal_of blame)))
blamed_text text blame (program, is, file) =
    text_so text (λ bytes. IsFileOf bytes (program_terms program))
    (λ bytes. Compiles bytes (refused (refusal_of blame)))
    (λ bytes written. judged program (refused (refusal_of blame)) written
    (blame_refused program blame is))
    file

-- a sink that took nothing
nothing_new : (old new : Outside) → ReadsNoItem old new → new.taken ≡ old.taken → new ≡ old
nothing_new old new same taken =
    same ∙ ap (λ (t : Option (List ℕ)). record old { taken = t }) taken

module _ {Q : Type 0} (left : Q → Option (List ℕ)) (ends : Q → ℕ) (olds news : List Q) where
  -- what came of a call for which one source is no query
  pub stopped_so : (command : Command) (why : QueryStop) (exit : Exit) (old new : Outside)
      → StopsAt left ends (IsStopAt left ends why) olds news
      → EndsFor why exit old.taken new.taken → ReadsNoItem old new
      → Outcome left ends olds news command exit old new
  stopped_so command stop.Failed exit old new stops ended same =
      fails (stops_so left ends (IsStopAt left ends stop.Failed) _ (λ o n is. is.0) olds news stops)
      ended.0 (nothing_new old new same ended.1)
  stopped_so command (stop.Refused why) exit old new stops ended same =
      refuses why
      (stops_so left ends (IsStopAt left ends (stop.Refused why)) _
      (λ o n is. (is.0, refused_text (left o) why is.1)) olds news stops)
      same ended
  stopped_so command (stop.Ambiguous blame) exit old new stops ended same =
      refuses (refusal_of blame.value)
      (stops_so left ends (IsStopAt left ends (stop.Ambiguous blame)) _
      (λ o n is. (is.0, blamed_text (left o) blame.value is.1)) olds news stops)
      same ended
  stopped_so command stop.Memory exit old new stops ended same =
      unknown
      (stops_so left ends (IsStopAt left ends stop.Memory) _ (λ o n is. is.0) olds news stops)
      ended.0 (nothing_new old new same ended.1)

-- what is written for the same queries
pub ended_for : (monitors others : List Monitor) → monitors ≡ others → (status : Status)
    (old new : Outside) → EndedBy (AreBesides monitors) status old new
    → EndedBy (AreBesides others) status old new
ended_for monitors others same status old new ended =
    subst (λ (ms : List Monitor). EndedBy (AreBesides ms) status old new) same ended

-- for want of memory nothing was read and nothing was written
pub nothing_done : (monitors : List Monitor) (here : Outside)
    → Carries Beside monitors Memory here here
nothing_done monitors here = (
  inl refl,
  [],
  Consumes-nil _,
  record { some = []; whole = ([], refl); wrote = ([], (λ meanings means. refl), Appends-nil _) },
)

-- what came of a command is what came of the words that ask for it
pub asked_so : {Q : Type 0} (left : Q → Option (List ℕ)) (ends : Q → ℕ) (olds news : List Q)
    (command : Command) (asked : Option Command) (exit : Exit) (old new : Outside)
    → Some command ≡ asked → Outcome left ends olds news command exit old new
    → OutcomeOf left ends olds news asked exit old new
asked_so left ends olds news command asked exit old new is came =
    subst (λ (a : Option Command). OutcomeOf left ends olds news a exit old new) is came

-- no fault of a query
abbrev IsNoFault : Exit → Type 0
IsNoFault (Plain QueryFault) = ⊥
IsNoFault exit = Unit {0}

-- words that ask for nothing are none
pub usage_fails : {Q : Type 0} (count : Q → ℕ) (sources : List Q)
    → OneFailsBy count sources sources (Plain Usage ≡ Plain QueryFault)
usage_fails count sources = record {
  by_one = λ failed. absurd (subst IsNoFault failed tt);
  else_same = λ never. all_same count sources;
}

-- as many queries as sources
pub has_queries : (command : Command) (made asked : ℕ) → made ≡ asked → HasQueries command asked
    → HasQueries command made
has_queries command made asked same has = subst (HasQueries command) (sym same) has

-- what was carried out for the same queries
pub carried_for : (command : Command) (queries others : List (Box CheckedQuery Global))
    → queries ≡ others → (exit : Exit) (old new : Outside)
    → CarriedOut command (monitors_of queries) exit old new
    → CarriedOut command (monitors_of others) exit old new
carried_for command queries others same exit old new carried =
    subst (λ (qs : List (Box CheckedQuery Global)).
    CarriedOut command (monitors_of qs) exit old new) same carried
