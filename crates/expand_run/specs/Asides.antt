-- Statement. A second place that helps to understand a refusal for a template.
use Rattle.std.specs.Prelude.{Option, None, Some}
use Rattle.language_base.specs.declared.span.Span.{Span}
use Rattle.query_templates.specs.declared.refusal.TemplateCause.{TemplateCause}
use Rattle.query_templates.specs.declared.refusal.TemplateCause.TheVariants.{OtherKind, TwoKinds}
use Rattle.expand_run.specs.declared.aside.Aside.{Aside}
use Rattle.expand_run.specs.declared.aside.Aside.TheVariants.{Kind, Parameter}

-- the second place, if there is one
abbrev pub aside_of : TemplateCause → Option Aside
aside_of (TwoKinds place) = Some (Kind place)
aside_of (OtherKind place) = Some (Parameter place)
aside_of cause = None

-- where it is
abbrev pub place_of : Aside → Span
place_of (Kind place) = place
place_of (Parameter place) = place
