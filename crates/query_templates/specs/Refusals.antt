-- Statement. Why a text with templates is refused, and where.
use Rattle.std.specs.Prelude.{◌≡◌, Option, Some, None}
use Rattle.language_base.specs.declared.span.Span.{Span}
use Rattle.query_templates.specs.declared.refusal.TemplateCause.{TemplateCause}
use Rattle.query_templates.specs.declared.refusal.TemplateRefusal.{TemplateRefusal}
use Rattle.query_templates.specs.declared.stop.TemplateStop.{TemplateStop}
use Rattle.query_templates.specs.declared.stop.TemplateStop.TheVariants.{Refused, Memory}

-- this cause at this place
abbrev pub refused : TemplateCause → Span → Option TemplateRefusal
refused cause place = Some (record { cause = cause; place = place })

-- the first of two, if there is one, or else the second
abbrev pub first_of : Option TemplateRefusal → Option TemplateRefusal → Option TemplateRefusal
first_of (Some refusal) other = Some refusal
first_of None other = other

-- the stop has the refusal that there is; want of memory says nothing of it
abbrev pub IsStopAt : Option TemplateRefusal → TemplateStop → Type 0
IsStopAt found (Refused refusal) = found ≡ Some refusal
IsStopAt found Memory = Unit {0}
