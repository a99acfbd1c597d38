-- Statement. A query text that is accepted, and where its main query stands.
use Rattle.std.specs.Prelude.{◌≡◌, ℕ, List}
use Rattle.language_base.specs.declared.span.Span.{Span}
use Rattle.query_compiler.specs.Compiled.{Compiles}
use Rattle.query_lets.specs.Unfolded.{unfolded}
use Rattle.query_model.specs.Monitors.{Monitor, monitor_of}
use Rattle.query_parser.specs.Reading.{IsFileOf}
use Rattle.query_syntax.specs.Files.{program_terms}
use Rattle.query_syntax.specs.Programs.{Program}
use Rattle.query_syntax.specs.Spans.{query_span}
use Rattle.type_checker.specs.Judged.{IsJudged, accepted, refused}
use Rattle.shard_run.specs.declared.judged.Judged.{Judged}
use Rattle.shard_run.specs.declared.judged.Judged.TheVariants.{Accepted, Refused}

-- the text writes a program that is accepted so, and this is the place of its main query or, if
-- that is a name, of what the name stands for
pub record IsAccepted (text : List ℕ) (monitor : Monitor) (place : Span) : Type 0 where
  pub program : Program
  pub written : IsFileOf text (program_terms program)
  pub judged : IsJudged program (accepted monitor)
  pub placed : place ≡ query_span (unfolded program)

-- the verdict on a text
abbrev pub IsVerdictOn : List ℕ → Judged → Type 0
IsVerdictOn text (Accepted checked) =
    IsAccepted text (monitor_of checked.value) checked.value.main.span
IsVerdictOn text (Refused why) = Compiles text (refused why)
