-- Statement. What a command that writes one line did, by its status; and what `rewrite` did, which
-- writes the text of a query.
use Rattle.std.specs.Prelude.{◌≡◌, ℕ, List, Option}
use Rattle.std.specs.Io.KnownBytes.{Appends}
use Rattle.io_edge.specs.Written.{AppendsSome}
use Rattle.language_base.specs.declared.refusal.Refusal.{Refusal}
use Rattle.query_model.specs.Bounds.{places_of, slots_of}
use Rattle.query_model.specs.Monitors.{Monitor}
use Rattle.report_writer.specs.Texts.{bound_text, check_text, refusal_text}
use Rattle.type_checker.specs.Judged.{Verdict, accepted, refused}
use Rattle.query_compiler.specs.Compiled.{Compiles, KeepsRulesIfAccepted, KeepsRules}
use Rattle.stream_run.specs.Drilled.{drilled}
use Rattle.stream_run.specs.Meanings.{IsMeaning, Meaning}
use Rattle.sqre_run.specs.Rewritten.{IsRewrittenText}
use Rattle.sqre_run.specs.declared.command.Command.{Command}
use Rattle.sqre_run.specs.declared.command.Command.TheVariants.{Run, Check, Bound, Why, Drill}
use Rattle.sqre_run.specs.declared.command.Command.TheVariants.{Rewrite}
use Rattle.stream_run.specs.declared.status.Status.{Status}
use Rattle.stream_run.specs.declared.status.Status.TheVariants.{Done, Refused, Usage, QueryFault}
use Rattle.stream_run.specs.declared.status.Status.TheVariants.{ItemFault, SinkFault, Memory, Limit}

-- P holds of the line for a query that is accepted: that it is, its bounds, or what a drill reports
-- of it, whatever function gives its values; or of the text of some query that it is rewritten as.
-- `run` and `slow` have no such line.
abbrev pub HoldsOfLine : Command → Monitor → (List ℕ → Type 0) → Type 0
HoldsOfLine (Run engine) monitor P = ⊥
HoldsOfLine Check monitor P = P check_text
HoldsOfLine Why monitor P = P check_text
HoldsOfLine Bound monitor P = P (bound_text (places_of monitor.query) (slots_of monitor.query))
HoldsOfLine (Drill count seed) monitor P =
    (meaning : Meaning) → IsMeaning monitor meaning → P (drilled meaning count seed)
HoldsOfLine Rewrite monitor P =
    (text : List ℕ) × IsRewrittenText monitor text × P text

-- P holds of the line for an accepted query, or of the line of its refusal
abbrev pub HoldsOfReply : Command → Verdict → (List ℕ → Type 0) → Type 0
HoldsOfReply command (accepted monitor) P = HoldsOfLine command monitor P
HoldsOfReply command (refused why) P = P (refusal_text why)

-- What was written for a query text, by the status.
abbrev pub WritesLine : Command → List ℕ → Status → Option (List ℕ) → Option (List ℕ) → Type 0
WritesLine command text Done old new = (monitor : Monitor) × Compiles text (accepted monitor)
    × KeepsRules monitor × HoldsOfLine command monitor (λ line. Appends old new line)
WritesLine command text Refused old new = (why : Refusal) × Compiles text (refused why)
    × Appends old new (refusal_text why)
WritesLine command text SinkFault old new = (query : Verdict) × Compiles text query
    × KeepsRulesIfAccepted query × HoldsOfReply command query (λ line. AppendsSome old new line)
WritesLine command text Usage old new = new ≡ old
WritesLine command text QueryFault old new = new ≡ old
WritesLine command text Memory old new = new ≡ old
WritesLine command text ItemFault old new = ⊥
WritesLine command text Limit old new = ⊥

-- How a call ends if nothing failed: a query that is accepted with its line, and any other text
-- with its refusal. Usage and Memory may come with both.
abbrev pub CompletesLine : Verdict → Status → Type 0
CompletesLine query Usage = Unit {0}
CompletesLine query Memory = Unit {0}
CompletesLine (accepted monitor) Done = Unit {0}
CompletesLine (refused why) Refused = Unit {0}
CompletesLine query _ = ⊥
