-- Statement. Why a text is refused, as it is explained to a person: where, its line there with
-- marks, and how to mend it.
use Rattle.std.specs.Prelude.{◌≡◌, ℕ, List, [], ◌++◌, codes, Option, None, Some}
use Rattle.explanation.specs.Explanations.{column_unit, place_text, text_explanation}
use Rattle.language_base.specs.declared.span.Span.{Span}
use Rattle.place_in_text.specs.Places.{column_of, line_of}
use Rattle.place_in_text.specs.Windows.{marked_line}
use Rattle.query_templates.specs.declared.refusal.TemplateRefusal.{TemplateRefusal}
use Rattle.template_expansion.specs.Meaning.{IsRefused}
use Rattle.template_expansion.specs.declared.stop.ExpandStop.{ExpandStop}
use Rattle.template_expansion.specs.declared.stop.ExpandStop.TheVariants as stop
use Rattle.expand_run.specs.Asides.{aside_of, place_of}
use Rattle.expand_run.specs.RefusalTexts.{remedy, template_line}
use Rattle.expand_run.specs.declared.aside.Aside.{Aside}
use Rattle.expand_run.specs.declared.aside.Aside.TheVariants.{Kind, Parameter}

-- what a text is called
abbrev pub called : List ℕ
called = codes "-"

-- the line and the column of a place
abbrev pub heading : List ℕ → Span → List ℕ
heading text place =
    place_text called (line_of text place.from) (column_of text place.from) ++ column_unit

-- what is said about a second place
abbrev pub said_of : Aside → List ℕ
said_of (Kind place) = codes "It stands at another kind of place here.\n"
said_of (Parameter place) = codes "Its parameter stands here.\n"

-- a second place, if there is one
abbrev pub aside_lines : List ℕ → Option Aside → List ℕ
aside_lines text None = []
aside_lines text (Some aside) =
    heading text (place_of aside) ++ said_of aside
    ++ marked_line text (place_of aside).from (place_of aside).to

-- the explanation of a refusal for a template
abbrev pub template_explanation : List ℕ → TemplateRefusal → List ℕ
template_explanation text refusal =
    heading text refusal.place ++ template_line refusal.place
    ++ marked_line text refusal.place.from refusal.place.to ++ remedy refusal.cause
    ++ aside_lines text (aside_of refusal.cause)

-- the explanation of any refusal of this text
abbrev pub Explains : List ℕ → ExpandStop → List ℕ → Type 0
Explains text (stop.Refused refusal) shown = shown ≡ text_explanation called text refusal
Explains text (stop.Template refusal) shown = shown ≡ template_explanation text refusal
Explains text stop.Memory shown = ⊥

-- the text is refused, and this explains why
abbrev pub ExplainsRefusal : List ℕ → List ℕ → Type 0
ExplainsRefusal text shown = (why : ExpandStop) × IsRefused text why × Explains text why shown
