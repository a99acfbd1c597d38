use Rattle.std.proofs.Common.{◌≡◌, drop}
use Rattle.query_templates.specs.Plain.{templates_of}
use Rattle.query_templates.specs.Templates.{template_at}
use Rattle.query_templates.proofs.template.template_at.Given as goal

-- the templates from the index on decide
abbrev pub invariant-templates : goal.invariant-templates
invariant-templates l =
    template_at l.text (templates_of l.templates) l.place
    ≡ template_at l.text (templates_of (drop l.template-index l.templates)) l.place
