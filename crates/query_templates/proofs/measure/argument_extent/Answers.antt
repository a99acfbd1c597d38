use Rattle.std.proofs.Common.{Some, subst}
use Rattle.query_trees.specs.Trees.{Trees}
use Rattle.query_templates.specs.Measured.{IsExtentOf}
use Rattle.query_templates.specs.Plain.{plain_template}
use Rattle.query_templates.proofs.Expanding.{word_filled}
use Rattle.query_templates.proofs.measure.argument_extent.Goals as goal

pub returns-in-Some : goal.returns-in-Some
returns-in-Some c = λ arguments are.
    subst (λ (terms : Trees). IsExtentOf terms c.extent_at.result)
    (word_filled c.args.text.now (plain_template c.args.template.now) arguments c.args.word
    (Some c.in-Some.at) c.in-Some.ensures)
    (c.extent_at.ensures arguments are)
