use Rattle.std.proofs.Common.{ℕ, Option, sym, ap, ◌∙◌}
use Rattle.query_trees.specs.Trees.{trees_of}
use Rattle.query_templates.specs.Plain.{plain_template, templates_of}
use Rattle.query_templates.specs.Templates.{Template}
use Rattle.query_templates.specs.Uses.{wrong_count, wrong_in_file}
use Rattle.query_templates.proofs.Lists.{count-trees}
use Rattle.query_templates.proofs.uses.wrong_in_file.Goals as goal

pub returns-in-Some : goal.returns-in-Some
returns-in-Some c =
    c.wrong_count.ensures
    ∙ ap (λ (n : ℕ). wrong_count (plain_template c.in-Some.template.now) n c.args.span)
    (sym (count-trees c.args.arguments.now))
    ∙ ap (λ (found : Option Template). wrong_in_file c.args.text.now
    (templates_of c.args.templates.now) found c.args.head (trees_of c.args.arguments.now)
    c.args.span) (sym c.in-Some.ensures)
