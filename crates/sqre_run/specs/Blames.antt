-- For the prover. What is written of a query that is refused for a word with two readings.
use Rattle.std.specs.Prelude.{◌≡◌, ℕ, List, ◌++◌}
use Rattle.ambiguity_example.specs.Shows.{Shown}
use Rattle.report_writer.specs.Examples.{example_text}
use Rattle.report_writer.specs.Texts.{refusal_text}
use Rattle.type_checker.specs.Blames.{refusal_of}
use Rattle.type_checker.specs.declared.blame.Blame.{Blame}
use Rattle.query_compiler.specs.Stops.{IsShownFor}
use Rattle.sqre_run.specs.declared.command.Command.{Command}
use Rattle.sqre_run.specs.declared.command.Command.TheVariants.{Why}

-- the line of the refusal, and such a word after it
abbrev pub IsReasonOf : Blame → List ℕ → Type 0
IsReasonOf blame lines = (shown : Shown) × IsShownFor blame shown
    × (lines ≡ refusal_text (refusal_of blame) ++ example_text shown.items shown.first shown.second)

-- what a command writes for a blame: `why` also the word, and any other the refusal alone
abbrev pub AreLinesOf : Command → Blame → List ℕ → Type 0
AreLinesOf Why blame lines = IsReasonOf blame lines
AreLinesOf command blame lines = lines ≡ refusal_text (refusal_of blame)
