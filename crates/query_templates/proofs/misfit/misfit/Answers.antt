use Rattle.std.proofs.Common.{◌≡◌, false, true, sym, ◌∙◌}
use Rattle.std.specs.Option.{option_copied}
use Rattle.query_trees.specs.Trees.{none, tree_before, trees_of}
use Rattle.query_templates.specs.Misfits.{is_other}
use Rattle.query_templates.proofs.Judging.{misfit_inside, misfit_outside}
use Rattle.query_templates.proofs.misfit.misfit.Goals as goal

pub returns-in_default : goal.returns-in_default
returns-in_default c =
    misfit_outside c.args.text.now (option_copied c.args.parameters) c.args.place
    (trees_of c.args.arguments.written.now) c.args.arguments.made.now c.args.one
    c.in_default.ensures.lookup.3

pub returns-then-is_other : goal.returns-then-is_other
returns-then-is_other c =
    let other : true ≡ is_other c.args.text.now (option_copied c.args.parameters) c.args.place
    c.args.one (tree_before c.in-Some.made.now none) =
    sym c.if-is_other.true ∙ c.is_other.ensures in
    c.refused_term.ensures
    ∙ misfit_inside c.args.text.now (option_copied c.args.parameters) c.args.place
    (trees_of c.args.arguments.written.now) c.args.arguments.made.now c.args.one
    c.in-Some.made.now c.in-Some.ensures.lookup.3.0 c.in-Some.ensures.lookup.1 true other

pub returns-else-is_other : goal.returns-else-is_other
returns-else-is_other c =
    let other : false ≡ is_other c.args.text.now (option_copied c.args.parameters) c.args.place
    c.args.one (tree_before c.in-Some.made.now none) =
    sym c.if-is_other.false ∙ c.is_other.ensures in
    misfit_inside c.args.text.now (option_copied c.args.parameters) c.args.place
    (trees_of c.args.arguments.written.now) c.args.arguments.made.now c.args.one
    c.in-Some.made.now c.in-Some.ensures.lookup.3.0 c.in-Some.ensures.lookup.1 false other
