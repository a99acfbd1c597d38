-- Definitions that are none.
use Rattle.std.proofs.Common.{◌≡◌, ℕ, List, Option, None, refl, sym, subst}
use Rattle.language_base.specs.declared.span.Span.{Span}
use Rattle.query_templates.specs.declared.refusal.TemplateCause.TheVariants.{Form}
use Rattle.query_templates.specs.declared.stop.TemplateStop.{TemplateStop}
use Rattle.query_templates.specs.declared.stop.TemplateStop.TheVariants.{Refused}
use Rattle.query_templates.specs.Definitions.{Definition, definition_refusal}
use Rattle.query_templates.specs.Refusals.{IsStopAt}
use Rattle.query_templates.specs.Templates.{Template}

-- where no definition is found
pub form_stops : (text : List ℕ) (templates : List Template) (used : ℕ) (place : Span)
    (found : Option Definition) → found ≡ None → (stop : TemplateStop)
    → stop ≡ Refused (record { cause = Form; place = place })
    → IsStopAt (definition_refusal text templates used found place) stop
form_stops text templates used place found missing stop is =
    subst (λ (f : Option Definition).
    IsStopAt (definition_refusal text templates used f place) stop) (sym missing)
    (subst (IsStopAt (definition_refusal text templates used None place)) (sym is) refl)
