-- Statement. What the explanation of a text is.
use Rattle.std.specs.Prelude.{◌≡◌, ◌⊎◌, ◌++◌, ℕ, List}
use Rattle.language_base.specs.declared.refusal.Refusal.{Refusal}
use Rattle.query_model.specs.Monitors.{Monitor}
use Rattle.query_parser.specs.Reading.{IsFileOf, IsRefused}
use Rattle.query_syntax.specs.Files.{program_terms}
use Rattle.query_syntax.specs.Programs.{Program}
use Rattle.explanation.specs.Explanations.{program_explanation, text_explanation}
use Rattle.query_compiler.specs.Compiled.{Compiles}
use Rattle.type_checker.specs.Judged.{accepted, refused}
use Rattle.explain_run.specs.Appended.{IsFound, found_text}
use Rattle.explain_run.specs.declared.findings.Found.{Found}

-- a run compiles the text to a query
abbrev pub IsAccepted : List ℕ → Type 0
IsAccepted text = (monitor : Monitor) × Compiles text (accepted monitor)

-- the explanation of the refusal of the program that the text is, followed by an example for it
abbrev pub ExplainsProgram : List ℕ → List ℕ → Program → Refusal → List ℕ → Type 0
ExplainsProgram name text program refusal shown =
    (found : Found) × IsFound text program refusal found
    × (shown ≡ program_explanation name text program refusal ++ found_text found)

-- the explanation of the refusal of this text, which is called by this name: that of a program, or
-- that of a text that is none
abbrev pub IsExplanation : List ℕ → List ℕ → Refusal → List ℕ → Type 0
IsExplanation name text refusal shown =
    (IsRefused text refusal × (shown ≡ text_explanation name text refusal))
    ⊎ ((program : Program) × IsFileOf text (program_terms program)
    × ExplainsProgram name text program refusal shown)

-- a run refuses the text, and this explains that same refusal
abbrev pub Explains : List ℕ → List ℕ → List ℕ → Type 0
Explains name text shown =
    (refusal : Refusal) × Compiles text (refused refusal) × IsExplanation name text refusal shown
