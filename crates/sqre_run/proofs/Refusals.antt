-- What came of a query text that is refused, by the command.
use Rattle.std.proofs.Common.{◌≡◌, ℕ, List, Option, Some, Result, Ok, Err, IfOk, refl, sym, subst}
use Rattle.std.specs.declared.alloc.AllocError.{AllocError}
use Rattle.std.specs.Io.KnownBytes.{Appends}
use Rattle.io_edge.specs.Written.{AppendsSome}
use Rattle.language_base.specs.declared.refusal.Refusal.{Refusal}
use Rattle.query_parser.specs.Reading.{IsFileOf}
use Rattle.query_syntax.specs.Files.{program_terms}
use Rattle.query_syntax.specs.Programs.{Program}
use Rattle.report_writer.specs.Texts.{refusal_text}
use Rattle.type_checker.specs.Blames.{ForbidsTwoReadings, IsBlameOf, refusal_of}
use Rattle.type_checker.specs.Judged.{refused}
use Rattle.type_checker.specs.declared.blame.Blame.{Blame}
use Rattle.type_checker.proofs.Judging.{blame_refused}
use Rattle.sqre_run.specs.Call.{CompletesOf, OutcomeOf}
use Rattle.sqre_run.specs.Carried.{RefusalCarried}
use Rattle.query_compiler.specs.Compiled.{Compiles, judged}
use Rattle.stream_run.specs.Written.{Refuses}
use Rattle.sqre_run.specs.OneLine.{CompletesLine, WritesLine}
use Rattle.stream_run.specs.Outside.{Outside}
use Rattle.sqre_run.specs.Reasons.{IsReason, WritesReason, by_line, by_word}
use Rattle.query_compiler.specs.Stops.{IsRefusedBy}
use Rattle.sqre_run.specs.Blames.{AreLinesOf, IsReasonOf}
use Rattle.sqre_run.specs.declared.command.Command.{Command}
use Rattle.sqre_run.specs.declared.command.Command.TheVariants.{Run, Check, Bound, Why, Drill}
use Rattle.sqre_run.specs.declared.command.Command.TheVariants.{Rewrite}
use Rattle.stream_run.specs.declared.status.Status.{Status}
use Rattle.stream_run.specs.declared.status.Status.TheVariants.{Refused, SinkFault, Memory}
use Rattle.sqre_run.proofs.Outcomes.{Completes-refused, Outcome-refused}

-- lines that were written are carried
carried_lines : (Are : List ℕ → Type 0) (status : Status) (lines : Result (List ℕ) AllocError)
    (old new : Option (List ℕ)) → IfOk lines Are → Refuses status lines old new
    → RefusalCarried Are status old new
carried_lines Are Refused (Ok lines) old new are refuses = (lines, are, refuses)
carried_lines Are Refused (Err error) old new are refuses = absurd refuses
carried_lines Are SinkFault (Ok lines) old new are refuses = (lines, are, refuses)
carried_lines Are SinkFault (Err error) old new are refuses = absurd refuses
carried_lines Are Memory (Ok lines) old new are refuses = absurd refuses
carried_lines Are Memory (Err error) old new are refuses = refuses
carried_lines Are status lines old new are refuses = absurd refuses

-- a command of one line writes its refusal
line_refused : (command : Command) (text : List ℕ) (why : Refusal) → Compiles text (refused why)
    → (status : Status) (old new : Option (List ℕ))
    → RefusalCarried (λ lines. lines ≡ refusal_text why) status old new
    → WritesLine command text status old new
line_refused command text why compiles Refused old new (lines, are, all) =
    (why, compiles, subst (λ (l : List ℕ). Appends old new l) are all)
line_refused command text why compiles SinkFault old new (lines, are, some) =
    (refused why, compiles, tt, subst (λ (l : List ℕ). AppendsSome old new l) are some)
line_refused command text why compiles Memory old new same = same
line_refused command text why compiles status old new none = absurd none

-- and `why` its reason
reason_refused : (text : List ℕ) (why : Refusal) → Compiles text (refused why)
    → (status : Status) (old new : Option (List ℕ))
    → RefusalCarried (IsReason text why) status old new → WritesReason text status old new
reason_refused text why compiles Refused old new (lines, are, all) =
    (why, lines, compiles, are, all)
reason_refused text why compiles SinkFault old new (lines, are, some) =
    (refused why, lines, compiles, tt, are, some)
reason_refused text why compiles Memory old new same = same
reason_refused text why compiles status old new none = absurd none

-- what each command writes of a refusal
abbrev AreRefusal : Command → List ℕ → Refusal → List ℕ → Type 0
AreRefusal Why text why lines = IsReason text why lines
AreRefusal command text why lines = lines ≡ refusal_text why

-- is the outcome of the text
outcome_of : (command : Command) (text : List ℕ) (why : Refusal) → Compiles text (refused why)
    → (status : Status) (old : Outside) (taken : Option (List ℕ))
    → RefusalCarried (AreRefusal command text why) status old.taken taken
    → OutcomeOf (Some command) text status old (record old { taken = taken })
outcome_of (Run engine) text why compiles status old taken carried =
    Outcome-refused text why compiles status old taken carried
outcome_of Check text why compiles status old taken carried =
    line_refused Check text why compiles status old.taken taken carried
outcome_of Bound text why compiles status old taken carried =
    line_refused Bound text why compiles status old.taken taken carried
outcome_of Why text why compiles status old taken carried =
    reason_refused text why compiles status old.taken taken carried
outcome_of (Drill count seed) text why compiles status old taken carried =
    line_refused (Drill count seed) text why compiles status old.taken taken carried
outcome_of Rewrite text why compiles status old taken carried =
    line_refused Rewrite text why compiles status old.taken taken carried

-- the line of a refusal is its reason where no word shows it
reason_by_line : (text : List ℕ) (why : Refusal) → (ForbidsTwoReadings why.rule → ⊥)
    → (lines : List ℕ) → lines ≡ refusal_text why → IsReason text why lines
reason_by_line text why no_word lines are = subst (IsReason text why) (sym are) (by_line no_word)

by_command : (command : Command) (text : List ℕ) (why : Refusal) → (ForbidsTwoReadings why.rule → ⊥)
    → (lines : List ℕ) → lines ≡ refusal_text why → AreRefusal command text why lines
by_command (Run engine) text why no_word lines are = are
by_command Check text why no_word lines are = are
by_command Bound text why no_word lines are = are
by_command Why text why no_word lines are = reason_by_line text why no_word lines are
by_command (Drill count seed) text why no_word lines are = are
by_command Rewrite text why no_word lines are = are

-- the refusal of a blame and its word are a reason, too
reason_by_word : (text : List ℕ) (program : Program) (blame : Blame)
    → IsFileOf text (program_terms program) → IsBlameOf program blame → (lines : List ℕ)
    → IsReasonOf blame lines → IsReason text (refusal_of blame) lines
reason_by_word text program blame file is lines (word, shortest, are) =
    subst (IsReason text (refusal_of blame)) (sym are) (by_word word (record {
      node = is.node;
      broken = is.broken;
      at = record {
        program = program;
        written = file;
        query = is.query;
        measured = is.measured;
        first = is.first;
      };
      why_is = is.at.refusal;
      question = is.at.question;
      asked = is.at.asked;
      shortest = shortest is.node is.broken is.at;
    }))

by_blame : (command : Command) (text : List ℕ) (program : Program) (blame : Blame)
    → IsFileOf text (program_terms program) → IsBlameOf program blame → (lines : List ℕ)
    → AreLinesOf command blame lines → AreRefusal command text (refusal_of blame) lines
by_blame (Run engine) text program blame file is lines are = are
by_blame Check text program blame file is lines are = are
by_blame Bound text program blame file is lines are = are
by_blame Why text program blame file is lines are =
    reason_by_word text program blame file is lines are
by_blame (Drill count seed) text program blame file is lines are = are
by_blame Rewrite text program blame file is lines are = are

-- a text is refused as its query is blamed
pub blame_compiles : (text : List ℕ) (program : Program) (blame : Blame)
    → IsFileOf text (program_terms program) → IsBlameOf program blame
    → Compiles text (refused (refusal_of blame))
blame_compiles text program blame file is =
    judged program (refused (refusal_of blame)) file (blame_refused program blame is)

-- what holds of the lines, if there are any
each_ok : (P Q : List ℕ → Type 0) → ((lines : List ℕ) → P lines → Q lines)
    → (lines : Result (List ℕ) AllocError) → IfOk lines P → IfOk lines Q
each_ok P Q gives (Ok lines) holds = gives lines holds
each_ok P Q gives (Err error) holds = tt

module _ (command : Command) (text : List ℕ) (status : Status)
    (lines : Result (List ℕ) AllocError) (old : Outside)
    (taken : Option (List ℕ)) (refuses : Refuses status lines old.taken taken) where
  pub outcome_refused : (why : Refusal) → IsRefusedBy why text
      → IfOk lines (λ l. l ≡ refusal_text why)
      → OutcomeOf (Some command) text status old (record old { taken = taken })
  outcome_refused why (compiles, no_word) are =
      outcome_of command text why compiles status old taken
      (carried_lines (AreRefusal command text why) status lines old.taken taken
      (each_ok (λ l. l ≡ refusal_text why) (AreRefusal command text why)
      (by_command command text why no_word) lines are)
      refuses)

  pub outcome_blamed : (program : Program) (blame : Blame) → IsFileOf text (program_terms program)
      → IsBlameOf program blame → IfOk lines (AreLinesOf command blame)
      → OutcomeOf (Some command) text status old (record old { taken = taken })
  outcome_blamed program blame file is are =
      let why = refusal_of blame in
      outcome_of command text why (blame_compiles text program blame file is) status old taken
      (carried_lines (AreRefusal command text why) status lines old.taken taken
      (each_ok (AreLinesOf command blame) (AreRefusal command text why)
      (by_blame command text program blame file is) lines are)
      refuses)

-- and it is complete where the sink did not fail
line_completes : (why : Refusal) (status : Status) (lines : Result (List ℕ) AllocError)
    (old new : Option (List ℕ)) → Refuses status lines old new → (status ≡ SinkFault → ⊥)
    → CompletesLine (refused why) status
line_completes why Refused lines old new refuses no_sink = tt
line_completes why SinkFault lines old new refuses no_sink = absurd (no_sink refl)
line_completes why Memory lines old new refuses no_sink = tt
line_completes why status lines old new refuses no_sink = absurd refuses

pub completes_refused : (command : Command) (why : Refusal) (status : Status)
    (lines : Result (List ℕ) AllocError) (old new : Option (List ℕ)) → Refuses status lines old new
    → (status ≡ SinkFault → ⊥) → CompletesOf (Some command) (refused why) status
completes_refused (Run engine) why status lines old new refuses no_sink =
    Completes-refused why status lines old new refuses no_sink
completes_refused Check why status lines old new refuses no_sink =
    line_completes why status lines old new refuses no_sink
completes_refused Bound why status lines old new refuses no_sink =
    line_completes why status lines old new refuses no_sink
completes_refused Why why status lines old new refuses no_sink =
    line_completes why status lines old new refuses no_sink
completes_refused (Drill count seed) why status lines old new refuses no_sink =
    line_completes why status lines old new refuses no_sink
completes_refused Rewrite why status lines old new refuses no_sink =
    line_completes why status lines old new refuses no_sink
