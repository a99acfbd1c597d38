use Rattle.std.proofs.Common.{sym, subst}
use Rattle.query_trees.specs.Trees.{Trees}
use Rattle.query_templates.specs.Measured.{IsExtentOf}
use Rattle.query_templates.proofs.Measuring.{extent-inside, extent-outside, word_counted}
use Rattle.query_templates.proofs.measure.extent_at.Goals as goal

pub returns-in-Some : goal.returns-in-Some
returns-in-Some c = λ arguments are.
    extent-inside c.args.extents.now arguments c.args.at c.args.word c.in-Some.extent.now are
    c.in-Some.ensures.lookup.3.0 c.in-Some.ensures.lookup.1

pub returns-in-None : goal.returns-in-None
returns-in-None c = λ arguments are.
    subst (λ (terms : Trees). IsExtentOf terms c.of_token.result)
    (sym (extent-outside c.args.extents.now arguments c.args.at c.args.word are
    c.in-None.ensures.lookup.3))
    (word_counted c.args.word c.of_token.result c.of_token.ensures)
