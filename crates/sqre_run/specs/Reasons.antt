-- Statement. What `why` wrote for a query text, by its status: `ok`, or the refusal of the text
-- and, if its rule forbids a word with two readings, a shortest such word.
use Rattle.std.specs.Prelude.{◌≡◌, ℕ, List, ◌++◌, Option}
use Rattle.std.specs.Io.KnownBytes.{Appends}
use Rattle.ambiguity_example.specs.Shows.{Shown}
use Rattle.io_edge.specs.Written.{AppendsSome}
use Rattle.language_base.specs.declared.refusal.Refusal.{Refusal}
use Rattle.query_model.specs.Monitors.{Monitor}
use Rattle.report_writer.specs.Examples.{example_text}
use Rattle.report_writer.specs.Texts.{check_text, refusal_text}
use Rattle.type_checker.specs.Blames.{ForbidsTwoReadings}
use Rattle.type_checker.specs.Judged.{Verdict, accepted, refused}
use Rattle.query_compiler.specs.Ambiguities.{ShowsWhy}
use Rattle.query_compiler.specs.Compiled.{Compiles, KeepsRules, KeepsRulesIfAccepted}
use Rattle.stream_run.specs.declared.status.Status.{Status}
use Rattle.stream_run.specs.declared.status.Status.TheVariants.{Done, Refused, Usage, QueryFault}
use Rattle.stream_run.specs.declared.status.Status.TheVariants.{ItemFault, SinkFault, Memory, Limit}

-- the lines of a refusal: its line, and after it a word with two readings if the rule forbids one
pub data IsReason (text : List ℕ) (why : Refusal) : List ℕ → Type 0 where
  by_line : (ForbidsTwoReadings why.rule → ⊥) → IsReason text why (refusal_text why)
  by_word : (word : Shown) → ShowsWhy text why word
      → IsReason text why (refusal_text why ++ example_text word.items word.first word.second)

-- the lines for a query that is accepted, or for a refusal
abbrev pub AreLines : List ℕ → Verdict → List ℕ → Type 0
AreLines text (accepted monitor) lines = lines ≡ check_text
AreLines text (refused why) lines = IsReason text why lines

-- What was written for a query text, by the status.
abbrev pub WritesReason : List ℕ → Status → Option (List ℕ) → Option (List ℕ) → Type 0
WritesReason text Done old new = (monitor : Monitor) × Compiles text (accepted monitor)
    × KeepsRules monitor × Appends old new check_text
WritesReason text Refused old new = (why : Refusal) × (lines : List ℕ) × Compiles text (refused why)
    × IsReason text why lines × Appends old new lines
WritesReason text SinkFault old new = (query : Verdict) × (lines : List ℕ) × Compiles text query
    × KeepsRulesIfAccepted query × AreLines text query lines × AppendsSome old new lines
WritesReason text Usage old new = new ≡ old
WritesReason text QueryFault old new = new ≡ old
WritesReason text Memory old new = new ≡ old
WritesReason text ItemFault old new = ⊥
WritesReason text Limit old new = ⊥
