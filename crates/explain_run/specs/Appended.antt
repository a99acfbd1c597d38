-- Statement. The words by which the query breaks its rule, as they are shown after the explanation
-- of a refusal.
use Rattle.std.specs.Prelude.{◌≡◌, ℕ, List, []}
use Rattle.language_base.specs.declared.refusal.Refusal.{Refusal}
use Rattle.language_base.specs.declared.rule.Rule.TheVariants.{Rates}
use Rattle.query_syntax.specs.Programs.{Program}
use Rattle.separating_word.specs.SeparationText.{separation_text}
use Rattle.type_checker.specs.Blames.{ForbidsTwoReadings}
use Rattle.explain_run.specs.Apart.{SeparatesMain, alone}
use Rattle.explain_run.specs.TwoReadings.{DrawsWhy}
use Rattle.explain_run.specs.declared.findings.Found.{Found}
use Rattle.explain_run.specs.declared.findings.Found.TheVariants.{Apart, Nothing, Readings}

-- What is found for the refusal of a text that is this program. For a combination whose operands do
-- not have the same words these are lines that distinguish them in the text that has it as its main
-- query. For a rule that forbids a word with two readings it is such a word. For any other rule
-- nothing is found, and for a combination perhaps nothing.
abbrev pub IsFound : List ℕ → Program → Refusal → Found → Type 0
IsFound text program refusal (Apart separation) =
    (refusal.rule ≡ Rates) × SeparatesMain (alone text program refusal.span) separation
IsFound text program refusal (Readings drawn) = DrawsWhy text refusal drawn
IsFound text program refusal Nothing = ForbidsTwoReadings refusal.rule → ⊥

-- the lines that show it
abbrev pub found_text : Found → List ℕ
found_text (Apart separation) = separation_text separation.side separation.lines.items
found_text (Readings drawn) = drawn
found_text Nothing = []
