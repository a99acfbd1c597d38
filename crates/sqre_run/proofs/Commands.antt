-- What came of a command, for a query text that may be reported.
use Rattle.std.proofs.Common.{◌≡◌, ◌≤◌, ◌+◌, ◌*◌, ◌-◌, ◌^◌, ℕ, min, List, [], Option, Some, None}
use Rattle.std.proofs.Common.{Result, Ok, Err, IfSome, IfOk, refl, sym, subst, arith}
use Rattle.std.specs.declared.alloc.AllocError.{AllocError}
use Rattle.std.specs.Io.KnownBytes.{Appends}
use Rattle.std.proofs.KnownBytes.{Appends-nil}
use Rattle.std.proofs.lemmas.Nat.{mul-le}
use Rattle.io_edge.specs.Written.{AppendsSome}
use Rattle.language_base.specs.declared.refusal.Refusal.{Refusal}
use Rattle.query_model.specs.Bounds.{inner_of, places_of, slots_of, width_of}
use Rattle.query_model.specs.Monitors.{Monitor}
use Rattle.query_model.specs.Queries.{Qre, atom, eps, choice, split, iter, combine, apply, compose}
use Rattle.query_model.specs.Queries.{collect}
use Rattle.query_model.specs.Sizes.{max_slots}
use Rattle.rate_expr.specs.Rates.{size_of}
use Rattle.report_writer.specs.Texts.{bound_text, check_text, refusal_text}
use Rattle.type_checker.specs.Blames.{refusal_of}
use Rattle.type_checker.specs.Judged.{Verdict, accepted, refused}
use Rattle.type_checker.specs.declared.blame.Blame.{Blame}
use Rattle.sqre_run.specs.Call.{CompletesOf, OutcomeOf}
use Rattle.sqre_run.specs.Carried.{Carried, LineCarried}
use Rattle.query_compiler.specs.Compiled.{Compiles, KeepsRules}
use Rattle.stream_run.specs.Drilled.{drilled}
use Rattle.stream_run.specs.Written.{Refuses, Reported}
use Rattle.stream_run.specs.Meanings.{IsMeaning, Meaning}
use Rattle.sqre_run.specs.OneLine.{CompletesLine, HoldsOfLine, WritesLine}
use Rattle.stream_run.specs.Outside.{Outside}
use Rattle.sqre_run.specs.Reasons.{WritesReason}
use Rattle.sqre_run.specs.Rewritten.{IsRewrittenText}
use Rattle.query_compiler.specs.Stops.{IsBlamedIn, IsStopOf}
use Rattle.sqre_run.specs.Blames.{AreLinesOf}
use Rattle.sqre_run.specs.declared.command.Command.{Command}
use Rattle.sqre_run.specs.declared.command.Command.TheVariants.{Run, Check, Bound, Why, Drill}
use Rattle.sqre_run.specs.declared.command.Command.TheVariants.{Rewrite}
use Rattle.query_compiler.specs.declared.query.QueryStop.TheVariants.{Refused as Refusing}
use Rattle.stream_run.specs.declared.status.Status.{Status}
use Rattle.stream_run.specs.declared.status.Status.TheVariants.{Done, ItemFault, SinkFault, Memory}
use Rattle.query_compiler.proofs.Compilations.{one_query}
use Rattle.sqre_run.proofs.Outcomes.{Completes-ended, Outcome-ended}
use Rattle.sqre_run.proofs.Refusals.{blame_compiles, completes_refused, outcome_blamed}
use Rattle.sqre_run.proofs.Refusals.{outcome_refused}

-- nothing was appended
none_appended : (old new : Option (List ℕ)) (line : List ℕ) → new ≡ old → AppendsSome old new line
none_appended old new line same = (
  [],
  line,
  refl,
  subst (λ (taken : Option (List ℕ)). Appends old taken []) (sym same) (Appends-nil old),
)

-- a line that was reported is carried, where what holds of it holds of the command's line
pub reported_line : (command : Command) (monitor : Monitor) (reply : Result (List ℕ) AllocError)
    → ((P : List ℕ → Type 0) → ((line : List ℕ) → P line) → HoldsOfLine command monitor P)
    → ((line : List ℕ) → reply ≡ Ok line → (P : List ℕ → Type 0) → P line
    → HoldsOfLine command monitor P)
    → (status : Status) (old new : Option (List ℕ)) → Reported status reply old new
    → LineCarried command monitor status old new
reported_line command monitor (Ok line) each given Done old new reported =
    given line refl (λ l. Appends old new l) reported
reported_line command monitor (Ok line) each given SinkFault old new reported =
    given line refl (λ l. AppendsSome old new l) reported
reported_line command monitor (Err error) each given SinkFault old new reported =
    each (λ l. AppendsSome old new l) (λ l. none_appended old new l reported)
reported_line command monitor (Err error) each given Memory old new reported = reported
reported_line command monitor reply each given status old new reported = absurd reported

-- so that of a check
pub reported_check : (monitor : Monitor) (reply : Result (List ℕ) AllocError)
    → IfOk reply (λ line. line ≡ check_text) → (status : Status) (old new : Option (List ℕ))
    → Reported status reply old new → LineCarried Check monitor status old new
reported_check monitor reply is =
    reported_line Check monitor reply (λ P each. each check_text) (given reply is)
  where
    given : (reply : Result (List ℕ) AllocError) → IfOk reply (λ line. line ≡ check_text)
        → (line : List ℕ) → reply ≡ Ok line → (P : List ℕ → Type 0) → P line → P check_text
    given (Ok text) is line same P holds = let here : line ≡ check_text = cc in subst P here holds
    given (Err error) is line same P holds = absurd (cc)

-- which `why` writes, too
pub reported_why : (monitor : Monitor) (status : Status) (old new : Option (List ℕ))
    → LineCarried Check monitor status old new → LineCarried Why monitor status old new
reported_why monitor Done old new carried = carried
reported_why monitor SinkFault old new carried = carried
reported_why monitor Memory old new carried = carried
reported_why monitor status old new carried = absurd carried

-- that of a bound
pub reported_bound : (monitor : Monitor) (reply : Result (List ℕ) AllocError)
    → IfOk reply (λ line. line ≡ bound_text (places_of monitor.query) (slots_of monitor.query))
    → (status : Status) (old new : Option (List ℕ)) → Reported status reply old new
    → LineCarried Bound monitor status old new
reported_bound monitor reply is =
    reported_line Bound monitor reply (λ P each. each text) (given reply is)
  where
    text : List ℕ
    text = bound_text (places_of monitor.query) (slots_of monitor.query)

    given : (reply : Result (List ℕ) AllocError) → IfOk reply (λ line. line ≡ text)
        → (line : List ℕ) → reply ≡ Ok line → (P : List ℕ → Type 0) → P line → P text
    given (Ok made) is line same P holds = let here : line ≡ text = cc in subst P here holds
    given (Err error) is line same P holds = absurd (cc)

-- and that of a drill
pub reported_drill : (count seed : ℕ) (monitor : Monitor) (reply : Result (List ℕ) AllocError)
    → IfOk reply
    (λ line. (meaning : Meaning) → IsMeaning monitor meaning → line ≡ drilled meaning count seed)
    → (status : Status) (old new : Option (List ℕ)) → Reported status reply old new
    → LineCarried (Drill count seed) monitor status old new
reported_drill count seed monitor reply is =
    reported_line (Drill count seed) monitor reply
    (λ P each meaning means. each (drilled meaning count seed)) (given reply is)
  where
    given : (reply : Result (List ℕ) AllocError)
        → IfOk reply (λ line. (meaning : Meaning) → IsMeaning monitor meaning
        → line ≡ drilled meaning count seed)
        → (line : List ℕ) → reply ≡ Ok line → (P : List ℕ → Type 0) → P line
        → (meaning : Meaning) → IsMeaning monitor meaning → P (drilled meaning count seed)
    given (Ok made) is line same P holds meaning means =
        let made_is : made ≡ drilled meaning count seed = is meaning means in
        let here : line ≡ drilled meaning count seed = cc in
        subst P here holds
    given (Err error) is line same P holds meaning means = absurd (cc)

-- and that of a rewritten query
pub reported_rewrite : (monitor : Monitor) → (text : List ℕ) × IsRewrittenText monitor text
    → (reply : Result (List ℕ) AllocError) → IfOk reply (IsRewrittenText monitor)
    → (status : Status) (old new : Option (List ℕ)) → Reported status reply old new
    → LineCarried Rewrite monitor status old new
reported_rewrite monitor some reply is =
    reported_line Rewrite monitor reply (λ P each. (some.0, some.1, each some.0)) (given reply is)
  where
    given : (reply : Result (List ℕ) AllocError) → IfOk reply (IsRewrittenText monitor)
        → (line : List ℕ) → reply ≡ Ok line → (P : List ℕ → Type 0) → P line
        → HoldsOfLine Rewrite monitor P
    given (Ok made) is line same P holds =
        let here : line ≡ made = cc in (made, is, subst P here holds)
    given (Err error) is line same P holds = absurd (cc)

-- what was carried is what a command of one line writes
line_writes : (command : Command) (text : List ℕ) (monitor : Monitor)
    → Compiles text (accepted monitor) → KeepsRules monitor
    → (status : Status) (old new : Option (List ℕ)) → LineCarried command monitor status old new
    → WritesLine command text status old new
line_writes command text monitor compiles keeps Done old new carried =
    (monitor, compiles, keeps, carried)
line_writes command text monitor compiles keeps SinkFault old new carried =
    (accepted monitor, compiles, keeps, carried)
line_writes command text monitor compiles keeps Memory old new carried = carried
line_writes command text monitor compiles keeps status old new carried = absurd carried

-- and so it is what `why` writes
reason_writes : (text : List ℕ) (monitor : Monitor) → Compiles text (accepted monitor)
    → KeepsRules monitor → (status : Status) (old new : Option (List ℕ))
    → LineCarried Why monitor status old new → WritesReason text status old new
reason_writes text monitor compiles keeps Done old new carried = (monitor, compiles, keeps, carried)
reason_writes text monitor compiles keeps SinkFault old new carried =
    (accepted monitor, check_text, compiles, keeps, refl, carried)
reason_writes text monitor compiles keeps Memory old new carried = carried
reason_writes text monitor compiles keeps status old new carried = absurd carried

-- and is complete where the sink did not fail
line_completes : (command : Command) (monitor : Monitor) (status : Status)
    (old new : Option (List ℕ)) → LineCarried command monitor status old new
    → (status ≡ SinkFault → ⊥) → CompletesLine (accepted monitor) status
line_completes command monitor Done old new carried no_sink = tt
line_completes command monitor SinkFault old new carried no_sink = absurd (no_sink refl)
line_completes command monitor Memory old new carried no_sink = tt
line_completes command monitor status old new carried no_sink = absurd carried

-- the outcome of the text, by the command
outcome_carried : (command : Command) (text : List ℕ) (monitor : Monitor)
    → Compiles text (accepted monitor) → KeepsRules monitor
    → (status : Status) (old new : Outside) → Carried command monitor status old new
    → OutcomeOf (Some command) text status old new
outcome_carried (Run engine) text monitor compiles keeps status old new carried =
    Outcome-ended text monitor compiles keeps status old new carried
outcome_carried Check text monitor compiles keeps status old new carried =
    line_writes Check text monitor compiles keeps status old.taken new.taken carried
outcome_carried Bound text monitor compiles keeps status old new carried =
    line_writes Bound text monitor compiles keeps status old.taken new.taken carried
outcome_carried Why text monitor compiles keeps status old new carried =
    reason_writes text monitor compiles keeps status old.taken new.taken carried
outcome_carried (Drill count seed) text monitor compiles keeps status old new carried =
    line_writes (Drill count seed) text monitor compiles keeps status old.taken new.taken carried
outcome_carried Rewrite text monitor compiles keeps status old new carried =
    line_writes Rewrite text monitor compiles keeps status old.taken new.taken carried

-- and its end
completes_carried : (command : Command) (monitor : Monitor) (status : Status) (old new : Outside)
    → Carried command monitor status old new → (status ≡ ItemFault → ⊥) → (status ≡ SinkFault → ⊥)
    → CompletesOf (Some command) (accepted monitor) status
completes_carried (Run engine) monitor status old new carried no_items no_sink =
    Completes-ended monitor status old new carried no_items no_sink
completes_carried Check monitor status old new carried no_items no_sink =
    line_completes Check monitor status old.taken new.taken carried no_sink
completes_carried Bound monitor status old new carried no_items no_sink =
    line_completes Bound monitor status old.taken new.taken carried no_sink
completes_carried Why monitor status old new carried no_items no_sink =
    line_completes Why monitor status old.taken new.taken carried no_sink
completes_carried (Drill count seed) monitor status old new carried no_items no_sink =
    line_completes (Drill count seed) monitor status old.taken new.taken carried no_sink
completes_carried Rewrite monitor status old new carried no_items no_sink =
    line_completes Rewrite monitor status old.taken new.taken carried no_sink

-- what completes a text's query completes each query that the text is compiled to
only_query : (command : Command) (text : List ℕ) (query : Verdict) (status : Status)
    → Compiles text query → CompletesOf (Some command) query status → (other : Verdict)
    → Compiles text other → CompletesOf (Some command) other status
only_query command text query status compiles completes other compiles' =
    subst (λ (q : Verdict). CompletesOf (Some command) q status)
    (sym (one_query text query other compiles compiles')) completes

module _ (command : Command) (asked : Option Command) (is : Some command ≡ asked) where
  -- the same of what was asked for, and for a query source that may report its text
  outcome_asked : (text : List ℕ) (status : Status) (old new : Outside)
      → OutcomeOf (Some command) text status old new → OutcomeOf asked text status old new
  outcome_asked text status old new outcome =
      subst (λ (a : Option Command). OutcomeOf a text status old new) is outcome

  completes_asked : (query : Verdict) (status : Status) → CompletesOf (Some command) query status
      → CompletesOf asked query status
  completes_asked query status completes =
      subst (λ (a : Option Command). CompletesOf a query status) is completes

  pub reported_outcome : (monitor : Monitor) (status : Status) (old new : Outside)
      → Carried command monitor status old new → KeepsRules monitor → (query : Option (List ℕ))
      → IfSome query (λ text. Compiles text (accepted monitor))
      → IfSome query (λ text. OutcomeOf asked text status old new)
  reported_outcome monitor status old new carried keeps None compiles = tt
  reported_outcome monitor status old new carried keeps (Some text) compiles =
      outcome_asked text status old new
      (outcome_carried command text monitor compiles keeps status old new carried)

  pub reported_complete : (monitor : Monitor) (status : Status) (old new : Outside)
      → Carried command monitor status old new → (query : Option (List ℕ))
      → IfSome query (λ text. Compiles text (accepted monitor))
      → (status ≡ ItemFault → ⊥) → (status ≡ SinkFault → ⊥)
      → IfSome query
      (λ text. (compiled : Verdict) → Compiles text compiled → CompletesOf asked compiled status)
  reported_complete monitor status old new carried None compiles no_items no_sink = tt
  reported_complete monitor status old new carried (Some text) compiles no_items no_sink =
      λ other compiles'.
      completes_asked other status (only_query command text (accepted monitor) status compiles
      (completes_carried command monitor status old new carried no_items no_sink) other compiles')

  -- the same for a refusal
  module _ (status : Status) (lines : Result (List ℕ) AllocError) (old : Outside)
      (taken : Option (List ℕ)) (refuses : Refuses status lines old.taken taken) where
    pub reported_refused : (query : Option (List ℕ)) (why : Refusal) → IsStopOf query (Refusing why)
        → IfOk lines (λ l. l ≡ refusal_text why)
        → IfSome query (λ text. OutcomeOf asked text status old (record old { taken = taken }))
    reported_refused None why stop are = tt
    reported_refused (Some text) why stop are =
        outcome_asked text status old (record old { taken = taken })
        (outcome_refused command text status lines old taken refuses why stop are)

    pub reported_blamed : (query : Option (List ℕ)) (blame : Blame) → IsBlamedIn query blame
        → IfOk lines (AreLinesOf command blame)
        → IfSome query (λ text. OutcomeOf asked text status old (record old { taken = taken }))
    reported_blamed None blame stop are = tt
    reported_blamed (Some text) blame (program, is, file) are =
        outcome_asked text status old (record old { taken = taken })
        (outcome_blamed command text status lines old taken refuses program blame file is are)

  module _ (status : Status) (lines : Result (List ℕ) AllocError) (old new : Option (List ℕ))
      (refuses : Refuses status lines old new) (no_sink : status ≡ SinkFault → ⊥) where
    complete_at : (text : List ℕ) (why : Refusal) → Compiles text (refused why)
        → (compiled : Verdict) → Compiles text compiled → CompletesOf asked compiled status
    complete_at text why compiles other compiles' =
        completes_asked other status (only_query command text (refused why) status compiles
        (completes_refused command why status lines old new refuses no_sink) other compiles')

    pub reported_refused_complete : (query : Option (List ℕ)) (why : Refusal)
        → IsStopOf query (Refusing why) → IfSome query
        (λ text. (compiled : Verdict) → Compiles text compiled → CompletesOf asked compiled status)
    reported_refused_complete None why stop = tt
    reported_refused_complete (Some text) why (compiles, no_word) = complete_at text why compiles

    pub reported_blamed_complete : (query : Option (List ℕ)) (blame : Blame)
        → IsBlamedIn query blame → IfSome query
        (λ text. (compiled : Verdict) → Compiles text compiled → CompletesOf asked compiled status)
    reported_blamed_complete None blame stop = tt
    reported_blamed_complete (Some text) blame (program, is, file) =
        complete_at text (refusal_of blame) (blame_compiles text program blame file is)

-- a factor of one or more
at_least : (a b : ℕ) → 1 ≤ b → a ≤ a * b
at_least a b some = omega (arith, mul-le a 1 a b (omega arith) some)

-- no more starts live than are kept
places_are_kept : (q : Qre) → places_of q ≤ inner_of q
places_are_kept (atom pred expression) = omega arith
places_are_kept (eps number) = omega arith
places_are_kept (choice f g) = let a = places_are_kept f in let b = places_are_kept g in omega arith
places_are_kept (split f g expression) = let a = places_are_kept f in
    let b = places_are_kept g in omega arith
places_are_kept (iter f number expression) = let a = places_are_kept f in omega arith
places_are_kept (combine f g expression) = let a = places_are_kept f in
    let b = places_are_kept g in omega arith
places_are_kept (apply f expression) = let a = places_are_kept f in omega arith
places_are_kept (compose f g) = let a = places_are_kept f in omega arith
places_are_kept (collect chosen sync rate f) =
    omega (
      arith,
      at_least (size_of rate + 1) (1 + size_of rate + (inner_of f + 1 + width_of f)) (omega arith),
    )

-- the bounds of a small query are reported as they are
pub bounds_are_small : (q : Qre) → slots_of q ≤ max_slots
    → (min (places_of q) (2 ^ 32 - 1) ≡ places_of q) × (min (slots_of q) (2 ^ 32 - 1) ≡ slots_of q)
bounds_are_small q small = let kept = places_are_kept q in (omega arith, omega arith)
