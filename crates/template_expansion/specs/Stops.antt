-- Statement. Why a text is not expanded. Want of memory says nothing of it.
use Rattle.std.specs.Prelude.{ℕ, List}
use Rattle.query_parser.specs.declared.stop.ReadStop.{ReadStop}
use Rattle.query_parser.specs.declared.stop.ReadStop.TheVariants as read
use Rattle.query_templates.specs.declared.stop.TemplateStop.{TemplateStop}
use Rattle.query_templates.specs.declared.stop.TemplateStop.TheVariants as template
use Rattle.template_expansion.specs.declared.stop.ExpandStop.{ExpandStop}
use Rattle.template_expansion.specs.declared.stop.ExpandStop.TheVariants.{Memory, Refused, Template}
use Rattle.template_expansion.specs.Meaning.{IsRefused}

-- the text is refused so
abbrev pub IsStopAt : List ℕ → ExpandStop → Type 0
IsStopAt text (Refused refusal) = IsRefused text (Refused refusal)
IsStopAt text (Template refusal) = IsRefused text (Template refusal)
IsStopAt text Memory = Unit {0}

-- why it is not read
abbrev pub of_reading : ReadStop → ExpandStop
of_reading (read.Refused refusal) = Refused refusal
of_reading read.Memory = Memory

-- why its templates are not replaced
abbrev pub of_template : TemplateStop → ExpandStop
of_template (template.Refused refusal) = Template refusal
of_template template.Memory = Memory
