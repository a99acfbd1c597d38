use Rattle.std.proofs.Common.{List, sym, ap, ◌∙◌}
use Rattle.std.specs.Option.{option_copied}
use Rattle.query_trees.specs.declared.tree.Tree.{Tree}
use Rattle.query_trees.specs.Trees.{trees_of}
use Rattle.query_templates.specs.Plain.{templates_of}
use Rattle.query_templates.specs.Uses.{first_wrong_use}
use Rattle.query_templates.proofs.Firsts.{found_at, none_more, wrong-joined}
use Rattle.query_templates.proofs.Using.{wrong_here, wrong_inside}
use Rattle.query_templates.proofs.uses.+uses.Goals as goal

pub first_wrong_use-returns-in-Some : goal.first_wrong_use-returns-in-Some
first_wrong_use-returns-in-Some t c =
    let text = c.args.text.now in
    let templates = templates_of c.args.templates.now in
    let parameters = option_copied c.args.parameters in
    found_at (first_wrong_use text templates parameters) (wrong-joined text templates parameters)
    c.args.trees.now c.trees.tree-index c.tree-item.result c.trees-test.true c.tree-item.is
    c.trees.invariant c.in-Some.refusal c.in-Some.ensures

pub first_wrong_use-trees-preserved : goal.first_wrong_use-trees-preserved
first_wrong_use-trees-preserved t c =
    let text = c.args.text.now in
    let templates = templates_of c.args.templates.now in
    let parameters = option_copied c.args.parameters in
    none_more (first_wrong_use text templates parameters) (wrong-joined text templates parameters)
    c.args.trees.now c.trees.tree-index c.tree-item.result c.trees-test.true c.tree-item.is
    c.trees.invariant (sym c.in_default.ensures)

pub wrong_use-returns-in-Some : goal.wrong_use-returns-in-Some
wrong_use-returns-in-Some t c =
    wrong_here c.args.text.now (templates_of c.args.templates.now)
    (option_copied c.args.parameters) c.args.tree.now c.in-Call.head c.in-Call.arguments
    c.in-Call.span c.deref.result.now c.in-Call.is c.deref.ensures.value c.in-Some.refusal
    c.in-Some.ensures

pub wrong_use-returns-in-None : goal.wrong_use-returns-in-None
wrong_use-returns-in-None t c =
    wrong_inside c.args.text.now (templates_of c.args.templates.now)
    (option_copied c.args.parameters) c.args.tree.now c.in-Call.head c.in-Call.arguments
    c.in-Call.span c.deref.result.now c.in-Call.is c.deref.ensures.value
    c.first_wrong_use.result c.in-None.ensures
    (c.first_wrong_use.ensures ∙ ap (λ (l : List Tree). first_wrong_use c.args.text.now
    (templates_of c.args.templates.now) (option_copied c.args.parameters) (trees_of l))
    (c.deref-in-None.ensures.value ∙ sym c.deref.ensures.value))
