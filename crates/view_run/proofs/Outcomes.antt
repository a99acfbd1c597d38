-- From what was done for a query to what came of a call.
use Rattle.std.proofs.Common.{◌≡◌, ◌↔◌, ◌⊎◌, inl, inr, ℕ, List, Option, Some, None, Result}
use Rattle.std.proofs.Common.{IfOk, IfSome, [], refl, subst}
use Rattle.std.proofs.KnownBytes.{Appends-nil, Consumes-nil}
use Rattle.std.specs.declared.alloc.AllocError.{AllocError}
use Rattle.io_edge.specs.Taken.{TakesFewer}
use Rattle.language_base.specs.declared.refusal.Refusal.{Refusal}
use Rattle.query_compiler.specs.Compiled.{Compiles, KeepsRules, judged}
use Rattle.query_compiler.specs.QueryRead.{ReadsNone, ReadsText, max_read}
use Rattle.query_compiler.specs.Stops.{IsBlamedIn, IsRefusedBy}
use Rattle.query_model.specs.Monitors.{Monitor}
use Rattle.query_parser.specs.Reading.{IsFileOf}
use Rattle.query_syntax.specs.Files.{program_terms}
use Rattle.report_writer.specs.Texts.{refusal_text}
use Rattle.stream_run.specs.Endings.{EndedBy}
use Rattle.stream_run.specs.Outside.{Outside}
use Rattle.stream_run.specs.Written.{Refuses}
use Rattle.stream_run.specs.declared.status.Status.{Status}
use Rattle.stream_run.specs.declared.status.Status.TheVariants.{Done, Refused, Usage, QueryFault}
use Rattle.stream_run.specs.declared.status.Status.TheVariants.{ItemFault, SinkFault, Memory, Limit}
use Rattle.type_checker.specs.Blames.{refusal_of}
use Rattle.type_checker.specs.Judged.{accepted, refused}
use Rattle.type_checker.specs.declared.blame.Blame.{Blame}
use Rattle.type_checker.proofs.Judging.{blame_refused}
use Rattle.view_run.specs.Call.{LeavesItems, OutcomeOf, carries, refuses}
use Rattle.view_run.specs.Call.{unknown}
use Rattle.view_run.specs.Outputs.{AreViews, Carries}
use Rattle.view_lines.specs.RowTexts.{Style}
use Rattle.view_lines.specs.declared.form.Form.{Form}
use Rattle.view_run.specs.declared.command.Command.{Command}
use Rattle.view_run.specs.declared.command.Command.TheVariants.{View, Units}

-- what holds of a text that is known, where it follows from another fact
text_so : (text : Option (List ℕ)) (P Q : List ℕ → Type 0) → ((bytes : List ℕ) → P bytes → Q bytes)
    → IfSome text P → IfSome text Q
text_so (Some bytes) P Q so holds = so bytes holds
text_so None P Q so holds = tt

-- a refusal by a rule that forbids no words with two readings
pub refused_text : (text : Option (List ℕ)) (why : Refusal) → IfSome text (IsRefusedBy why)
    → IfSome text (λ bytes. Compiles bytes (refused why))
refused_text text why = text_so text (IsRefusedBy why) (λ bytes. Compiles bytes (refused why))
    (λ bytes is. is.0)

-- and by one that forbids them
pub blamed_text : (text : Option (List ℕ)) (blame : Blame) → IsBlamedIn text blame
    → IfSome text (λ bytes. Compiles bytes (refused (refusal_of blame)))
blamed_text text blame (program, is, file) =
    text_so text (λ bytes. IsFileOf bytes (program_terms program))
    (λ bytes. Compiles bytes (refused (refusal_of blame)))
    (λ bytes written. judged program (refused (refusal_of blame)) written
    (blame_refused program blame is))
    file

-- no command ends by the words, by a fault of the query or by a refusal
no_usage : (command : Command) (monitor : Monitor) (old new : Outside)
    → Carries command monitor Usage old new → ⊥
no_usage (View form digits) monitor old new ended = ended
no_usage Units monitor old new (same, line, made, wrote) = wrote

no_fault : (command : Command) (monitor : Monitor) (old new : Outside)
    → Carries command monitor QueryFault old new → ⊥
no_fault (View form digits) monitor old new ended = ended
no_fault Units monitor old new (same, line, made, wrote) = wrote

pub no_refusal : (command : Command) (monitor : Monitor) (old new : Outside)
    → Carries command monitor Refused old new → ⊥
no_refusal (View form digits) monitor old new ended = ended
no_refusal Units monitor old new (same, line, made, wrote) = wrote

module _ (left left' : Option (List ℕ)) (ends ends' : ℕ) (old new : Outside)
    (reads : ReadsText left left' ends ends') (command : Command) where
  -- what came of a query that was carried out
  of_carried : (status : Status) (monitor : Monitor)
      → IfSome left (λ bytes. Compiles bytes (accepted monitor)) → KeepsRules monitor
      → Carries command monitor status old new
      → OutcomeOf left left' ends ends' old new (Some command) status
  of_carried Done monitor is keeps does = (reads, carries monitor is keeps does)
  of_carried Refused monitor is keeps does = (reads, carries monitor is keeps does)
  of_carried Usage monitor is keeps does = no_usage command monitor old new does
  of_carried QueryFault monitor is keeps does = absurd (no_fault command monitor old new does)
  of_carried ItemFault monitor is keeps does = (reads, carries monitor is keeps does)
  of_carried SinkFault monitor is keeps does = (reads, carries monitor is keeps does)
  of_carried Memory monitor is keeps does = (inr reads, carries monitor is keeps does)
  of_carried Limit monitor is keeps does = (reads, carries monitor is keeps does)

  -- and of one that was refused
  of_refused : (status : Status) (why : Refusal)
      → IfSome left (λ bytes. Compiles bytes (refused why)) → (line : Result (List ℕ) AllocError)
      → IfOk line (λ text. text ≡ refusal_text why) → new ≡ record old { taken = new.taken }
      → Refuses status line old.taken new.taken
      → OutcomeOf left left' ends ends' old new (Some command) status
  of_refused Refused why is line made same wrote =
      (reads, refuses why is (same, line, made, wrote))
  of_refused SinkFault why is line made same wrote =
      (reads, refuses why is (same, line, made, wrote))
  of_refused Memory why is line made same wrote =
      (inr reads, refuses why is (same, line, made, wrote))
  of_refused status why is line made same wrote = absurd wrote

  module _ (asked : Option Command) (is_asked : Some command ≡ asked) where
    pub carried_asked : (status : Status) (monitor : Monitor)
        → IfSome left (λ bytes. Compiles bytes (accepted monitor)) → KeepsRules monitor
        → Carries command monitor status old new
        → OutcomeOf left left' ends ends' old new asked status
    carried_asked status monitor is keeps does =
        subst (λ (a : Option Command). OutcomeOf left left' ends ends' old new a status) is_asked
        (of_carried status monitor is keeps does)

    pub refused_asked : (status : Status) (why : Refusal)
        → IfSome left (λ bytes. Compiles bytes (refused why))
        → (line : Result (List ℕ) AllocError) → IfOk line (λ text. text ≡ refusal_text why)
        → new ≡ record old { taken = new.taken } → Refuses status line old.taken new.taken
        → OutcomeOf left left' ends ends' old new asked status
    refused_asked status why is line made same wrote =
        subst (λ (a : Option Command). OutcomeOf left left' ends ends' old new a status) is_asked
        (of_refused status why is line made same wrote)

-- a query that could not be read
pub fault_asked : (left left' : Option (List ℕ)) (ends ends' : ℕ) (old new : Outside)
    (command : Command) (asked : Option Command) → Some command ≡ asked
    → TakesFewer max_read left left' ends ends' → new ≡ old
    → OutcomeOf left left' ends ends' old new asked QueryFault
fault_asked left left' ends ends' old new command asked is takes same =
    subst (λ (a : Option Command). OutcomeOf left left' ends ends' old new a QueryFault) is
    (takes, same)

-- or for which there was no memory
pub memory_asked : (left left' : Option (List ℕ)) (ends ends' : ℕ) (old new : Outside)
    (command : Command) (asked : Option Command) → Some command ≡ asked
    → ReadsNone left left' ends ends' ⊎ ReadsText left left' ends ends' → new ≡ old
    → OutcomeOf left left' ends ends' old new asked Memory
memory_asked left left' ends ends' old new command asked is reads same =
    subst (λ (a : Option Command). OutcomeOf left left' ends ends' old new a Memory) is
    (reads, unknown refl same)

-- words that ask for something are not refused for their form
pub asked_usage : (command : Command) (asked : Option Command) → Some command ≡ asked
    → (status : Status) → (status ≡ Usage → ⊥) → (status ≡ Usage) ↔ (asked ≡ None)
asked_usage command asked is status never = (λ same. absurd (never same), λ none. absurd (cc))

pub carried_usage : (command : Command) (monitor : Monitor) (status : Status) (old new : Outside)
    → Carries command monitor status old new → status ≡ Usage → ⊥
carried_usage command monitor status old new does is =
    no_usage command monitor old new
    (subst (λ (s : Status). Carries command monitor s old new) is does)

-- only a view that came to its lines may have read items
pub viewed_items : {S : Type 0} (form : Form) (digits : Option ℕ) (monitor : Monitor)
    (status : Status) (old new : Outside) (items items' : S)
    → Carries (View form digits) monitor status old new
    → LeavesItems (Some (View form digits)) status items items'
viewed_items form digits monitor Done old new items items' does = tt
viewed_items form digits monitor Refused old new items items' does = absurd does
viewed_items form digits monitor Usage old new items items' does = absurd does
viewed_items form digits monitor QueryFault old new items items' does = absurd does
viewed_items form digits monitor ItemFault old new items items' does = tt
viewed_items form digits monitor SinkFault old new items items' does = tt
viewed_items form digits monitor Memory old new items items' does = tt
viewed_items form digits monitor Limit old new items items' does = tt

pub items_asked : {S : Type 0} (command : Command) (asked : Option Command)
    → Some command ≡ asked → (status : Status) (items items' : S)
    → LeavesItems (Some command) status items items' → LeavesItems asked status items items'
items_asked command asked is status items items' leaves =
    subst (λ (a : Option Command). LeavesItems a status items items') is leaves

-- where items are left, they are
pub same_items : {S : Type 0} (asked : Option Command) (status : Status) (items : S)
    → LeavesItems asked status items items
same_items None status items = refl
same_items (Some Units) status items = refl
same_items (Some (View form digits)) Done items = tt
same_items (Some (View form digits)) Refused items = refl
same_items (Some (View form digits)) Usage items = refl
same_items (Some (View form digits)) QueryFault items = refl
same_items (Some (View form digits)) ItemFault items = tt
same_items (Some (View form digits)) SinkFault items = tt
same_items (Some (View form digits)) Memory items = tt
same_items (Some (View form digits)) Limit items = tt

-- for want of memory nothing was read and nothing was written
pub nothing_viewed : (style : Style) (monitor : Monitor) (here : Outside)
    → EndedBy (AreViews style monitor) Memory here here
nothing_viewed style monitor here = (
  inl refl,
  [],
  Consumes-nil _,
  record { some = []; whole = ([], refl); wrote = ([], (λ meaning means. refl), Appends-nil _) },
)
