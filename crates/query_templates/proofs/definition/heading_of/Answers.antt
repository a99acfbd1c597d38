use Rattle.std.proofs.Common.{Vec, Global, Some, None, sym, ap, ◌∙◌}
use Rattle.std.specs.Option.{option_map}
use Rattle.language_base.specs.declared.span.Span.{Span}
use Rattle.query_templates.proofs.Defining.{heading_call}
use Rattle.query_templates.proofs.definition.heading_of.Goals as goal

pub returns-in-Some : goal.returns-in-Some
returns-in-Some c = λ body.
    heading_call c.args.tree.now c.in-Call.name c.in-Call.parameters c.in-Call.field-2
    c.deref.result.now c.in-Call.is c.deref.ensures.value (Some c.in-Some.parameters.items)
    (ap (option_map (λ (v : Vec Span Global). v.items)) (sym c.in-Some.is)
    ∙ c.in_ok-parameters-in-Call.ensures) body

pub returns-in-None : goal.returns-in-None
returns-in-None c = λ body.
    heading_call c.args.tree.now c.in-Call.name c.in-Call.parameters c.in-Call.field-2
    c.deref.result.now c.in-Call.is c.deref.ensures.value None
    (ap (option_map (λ (v : Vec Span Global). v.items)) (sym c.in-None.is)
    ∙ c.in_ok-parameters-in-Call.ensures) body
