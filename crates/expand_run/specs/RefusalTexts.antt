-- Statement. The lines of a refusal: by a rule of the language as they are written by a run; for a
-- template a line with its place, a line that says how to mend it, and a line with a second place
-- where there is one.
use Rattle.std.specs.Prelude.{◌≡◌, ℕ, List, [], ◌++◌, codes, decimal, Option, None, Some}
use Rattle.language_base.specs.declared.span.Span.{Span}
use Rattle.query_templates.specs.declared.refusal.TemplateCause.{TemplateCause}
use Rattle.query_templates.specs.declared.refusal.TemplateCause.TheVariants.{Form, Misplaced}
use Rattle.query_templates.specs.declared.refusal.TemplateCause.TheVariants.{Reserved, Twice}
use Rattle.query_templates.specs.declared.refusal.TemplateCause.TheVariants.{Applied, Unknown}
use Rattle.query_templates.specs.declared.refusal.TemplateCause.TheVariants.{TooFew, TooMany}
use Rattle.query_templates.specs.declared.refusal.TemplateCause.TheVariants.{Large, Deep}
use Rattle.query_templates.specs.declared.refusal.TemplateCause.TheVariants.{OtherKind, TwoKinds}
use Rattle.query_templates.specs.declared.refusal.TemplateRefusal.{TemplateRefusal}
use Rattle.report_writer.specs.Texts.{refusal_text}
use Rattle.template_expansion.specs.Meaning.{IsRefused}
use Rattle.template_expansion.specs.declared.stop.ExpandStop.{ExpandStop}
use Rattle.template_expansion.specs.declared.stop.ExpandStop.TheVariants as stop
use Rattle.expand_run.specs.Asides.{aside_of, place_of}
use Rattle.expand_run.specs.declared.aside.Aside.{Aside}

-- where a part of the text begins and ends
abbrev pub span_text : Span → List ℕ
span_text place = decimal place.from ++ codes ".." ++ decimal place.to

-- a template that is refused there
abbrev pub template_line : Span → List ℕ
template_line place = codes "refused template " ++ span_text place ++ codes "\n"

-- how to mend a template
abbrev pub remedy : TemplateCause → List ℕ
remedy Form =
    codes "A definition is def(NAME, BODY) or def(NAME(PARAMETER, ..), BODY): write it so.\n"
remedy Misplaced =
    codes "Definitions stand before all other terms: move this one to the front.\n"
remedy Reserved = codes "The language has this name: choose another one.\n"
remedy Twice = codes "This name is taken: choose another one.\n"
remedy Applied = codes "A parameter has no arguments: write its name alone.\n"
remedy Unknown =
    codes "Neither the language nor a template before this one has this name: define it above.\n"
remedy TooFew = codes "An argument is missing: write one for each parameter of the template.\n"
remedy TooMany =
    codes "There are too many arguments: write one for each parameter of the template.\n"
remedy Large =
    codes "With all uses replaced the text has over 65,536 bytes: use templates less often.\n"
remedy Deep =
    codes "With all uses replaced terms are nested in more than 64 levels: nest fewer uses.\n"
remedy (TwoKinds place) =
    codes "A parameter stands at places of one kind: use two parameters.\n"
remedy (OtherKind place) =
    codes "The place of its parameter takes another kind of argument: write one of that kind.\n"

-- a second place
abbrev pub see_line : Option Aside → List ℕ
see_line None = []
see_line (Some aside) = codes "see " ++ span_text (place_of aside) ++ codes "\n"

-- the lines of a refusal for a template
abbrev pub template_text : TemplateRefusal → List ℕ
template_text refusal =
    template_line refusal.place ++ remedy refusal.cause ++ see_line (aside_of refusal.cause)

-- the lines of any refusal
abbrev pub Tells : ExpandStop → List ℕ → Type 0
Tells (stop.Refused refusal) lines = lines ≡ refusal_text refusal
Tells (stop.Template refusal) lines = lines ≡ template_text refusal
Tells stop.Memory lines = ⊥

-- the text is refused, and these lines say so
abbrev pub TellsRefusal : List ℕ → List ℕ → Type 0
TellsRefusal text lines = (why : ExpandStop) × IsRefused text why × Tells why lines
