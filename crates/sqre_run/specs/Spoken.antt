-- Statement. What a call writes for a query text and item bytes: the answers, or a refusal.
use Rattle.std.specs.Prelude.{◌≡◌, ℕ, true, false, List}
use Rattle.io_edge.specs.Lines.{Shown, lines}
use Rattle.language_base.specs.declared.refusal.Refusal.{Refusal}
use Rattle.report_writer.specs.Texts.{refusal_text}
use Rattle.type_checker.specs.Judged.{Verdict, accepted, refused}
use Rattle.stream_run.specs.Meanings.{IsMeaning, Meaning}
use Rattle.stream_run.specs.Output.{answers}

-- what is written about a query text: answers by what the query means, or a refusal
pub data Spoken : Type 0 where
  answering : Meaning → Spoken
  refusing : Refusal → Spoken

-- it follows the verdict: any function that gives the values of the query, or the refusal
abbrev pub Reports : Verdict → Spoken → Type 0
Reports (accepted monitor) (answering meaning) = IsMeaning monitor meaning
Reports (refused why) (refusing refusal) = refusal ≡ why
Reports _ _ = ⊥

-- what is written for a query and these lines
abbrev pub output_lines : Spoken → List Shown → List ℕ
output_lines (answering meaning) shown = answers meaning shown
output_lines (refusing refusal) shown = refusal_text refusal

-- what a run writes for a query and item bytes
abbrev pub output : Spoken → List ℕ → List ℕ
output query bytes = output_lines query (lines bytes true)

-- what a run writes for the lines that an LF ends, without a last line that none ends
abbrev pub whole_output : Spoken → List ℕ → List ℕ
whole_output query bytes = output_lines query (lines bytes false)
