-- From a run or a refusal to the outcome of a run.
use Rattle.std.proofs.Common.{◌≡◌, ℕ, List, [], Option, Result, inl, inr, refl, sym, ap, subst, ◌∙◌}
use Rattle.std.proofs.Common.{arith}
use Rattle.std.specs.declared.alloc.AllocError.{AllocError}
use Rattle.std.specs.Io.KnownBytes.{Appends}
use Rattle.std.proofs.KnownBytes.{Consumes-nil}
use Rattle.io_edge.specs.Written.{AppendsSome}
use Rattle.language_base.specs.declared.refusal.Refusal.{Refusal}
use Rattle.report_writer.specs.Texts.{refusal_text}
use Rattle.query_compiler.specs.Compiled.{Compiles, KeepsRules}
use Rattle.query_model.specs.Monitors.{Monitor}
use Rattle.type_checker.specs.Judged.{accepted, refused}
use Rattle.sqre_run.specs.Spoken.{Spoken, Reports, answering, output, refusing, whole_output}
use Rattle.stream_run.specs.Outside.{Ended, Outside, WrotePart}
use Rattle.sqre_run.specs.Call.{Completes, Outcome}
use Rattle.sqre_run.specs.Carried.{RefusalCarried}
use Rattle.stream_run.specs.Written.{Refuses}
use Rattle.stream_run.specs.declared.status.Status.{Status}
use Rattle.stream_run.specs.declared.status.Status.TheVariants.{Done, Refused, ItemFault, SinkFault}
use Rattle.stream_run.specs.declared.status.Status.TheVariants.{Memory, Limit}

-- how the run of a query ended is the outcome of its text
pub Outcome-ended : (text : List ℕ) (monitor : Monitor) → Compiles text (accepted monitor)
    → KeepsRules monitor → (status : Status) (old new : Outside) → Ended monitor status old new
    → Outcome text status old new
Outcome-ended text monitor compiles keeps Done old new (ends, ended) =
    (monitor, compiles, keeps, (omega (arith, ends), ended))
Outcome-ended text monitor compiles keeps ItemFault old new (ends, got, wrote) =
    (monitor, compiles, keeps, (got, wrote))
Outcome-ended text monitor compiles keeps SinkFault old new (ends, got, read, some) =
    (accepted monitor, got, compiles, keeps, read, reported_some)
  where
    reported_some : (spoken : Spoken) → Reports (accepted monitor) spoken
        → WrotePart old new (output spoken got) (whole_output spoken got)
    reported_some (answering meaning) means = some meaning means
    reported_some (refusing refusal) means = absurd means
Outcome-ended text monitor compiles keeps Memory old new (ends, got, wrote) =
    inr (monitor, compiles, keeps, (got, wrote))
Outcome-ended text monitor compiles keeps Limit old new (ends, got, most, wrote) =
    (monitor, compiles, keeps, (got, most, wrote))
Outcome-ended text monitor compiles keeps status old new ended = absurd ended

-- a refusal that was written is the outcome, where no item was read
pub Outcome-refused : (text : List ℕ) (refusal : Refusal) → Compiles text (refused refusal)
    → (status : Status) (old : Outside) (taken : Option (List ℕ))
    → RefusalCarried (λ lines. lines ≡ refusal_text refusal) status old.taken taken
    → Outcome text status old (record old { taken = taken })
Outcome-refused text refusal compiles Refused old taken (lines, are, all) =
    (refusal, compiles, refl, subst (λ (l : List ℕ). Appends old.taken taken l) are all)
Outcome-refused text refusal compiles SinkFault old taken (lines, are, some) =
    (refused refusal, [], compiles, tt, Consumes-nil old.left, reported_some)
  where
    reported_some : (spoken : Spoken) → Reports (refused refusal) spoken
        → WrotePart old (record old { taken = taken }) (output spoken []) (whole_output spoken [])
    reported_some (answering meaning) means = absurd means
    reported_some (refusing other) same =
        let part : AppendsSome old.taken taken (refusal_text other) =
        subst (λ (l : List ℕ). AppendsSome old.taken taken l)
        (are ∙ ap refusal_text (sym same)) some in
        record { part = part; no_end = λ none. part }
Outcome-refused text refusal compiles Memory old taken refuses =
    inl (ap (λ (t : Option (List ℕ)). record old { taken = t }) refuses)
Outcome-refused text refusal compiles status old taken refuses = absurd refuses

-- a run that met no fault is complete, and so is a refusal
pub Completes-ended : (monitor : Monitor) (status : Status) (old new : Outside)
    → Ended monitor status old new → (status ≡ ItemFault → ⊥) → (status ≡ SinkFault → ⊥)
    → Completes (accepted monitor) status
Completes-ended monitor Done old new ended no_items no_sink = tt
Completes-ended monitor ItemFault old new ended no_items no_sink = absurd (no_items refl)
Completes-ended monitor SinkFault old new ended no_items no_sink = absurd (no_sink refl)
Completes-ended monitor Memory old new ended no_items no_sink = tt
Completes-ended monitor Limit old new ended no_items no_sink = tt
Completes-ended monitor status old new ended no_items no_sink = absurd ended

pub Completes-refused : (refusal : Refusal) (status : Status) (lines : Result (List ℕ) AllocError)
    (old new : Option (List ℕ)) → Refuses status lines old new → (status ≡ SinkFault → ⊥)
    → Completes (refused refusal) status
Completes-refused refusal Refused lines old new refuses no_sink = tt
Completes-refused refusal SinkFault lines old new refuses no_sink = absurd (no_sink refl)
Completes-refused refusal Memory lines old new refuses no_sink = tt
Completes-refused refusal status lines old new refuses no_sink = absurd refuses
