use Rattle.std.proofs.Common.{◌≡◌, ℕ, rules, sym, ap, ◌∙◌}
use Rattle.query_templates.specs.Plain.{templates_of}
use Rattle.query_templates.specs.Templates.{template_at}
use Rattle.query_templates.specs.Uses.{wrong_in_body}
use Rattle.query_templates.proofs.Lists.{count-trees}
use Rattle.query_templates.proofs.uses.wrong_call.Goals as goal

pub returns-in-Some : goal.returns-in-Some
returns-in-Some c =
    let counted : c.wrong_in_body.result ≡ _ = c.wrong_in_body.ensures
    ∙ ap (λ (n : ℕ). wrong_in_body c.args.text.now c.in-Some.parameters.now
    (template_at c.args.text.now (templates_of c.args.templates.now) c.args.head.span)
    c.args.head n c.args.span) (sym (count-trees c.args.arguments.now)) in
    search (rules, counted)
