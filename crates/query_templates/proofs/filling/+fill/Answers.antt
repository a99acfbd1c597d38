use Rattle.query_trees.specs.Trees.{none, trees_of}
use Rattle.query_templates.specs.Expansion.{filled}
use Rattle.query_templates.specs.Plain.{plain_template}
use Rattle.query_templates.proofs.Expanding.{call_filled, filled-joined}
use Rattle.query_templates.proofs.Lists.{made_more}
use Rattle.query_templates.proofs.filling.+fill.Goals as goal

pub filled_all-trees-preserved : goal.filled_all-trees-preserved
filled_all-trees-preserved t c =
    let template = plain_template c.args.template.now in
    let arguments = trees_of c.args.arguments.now in
    made_more (filled c.args.text.now template arguments)
    (filled-joined c.args.text.now template arguments) c.args.trees.now c.trees.tree-index
    c.tree-item.result c.trees-test.true c.tree-item.is c.trees.made.items
    c.push.new.self.items c.in_ok-filled.field-0 c.in_ok-push.ensures.items c.trees.invariant
    c.in_ok-filled.ensures

pub filled-returns-in_ok-inner-in-Call : goal.filled-returns-in_ok-inner-in-Call
filled-returns-in_ok-inner-in-Call t c =
    call_filled c.args.text.now (plain_template c.args.template.now)
    (trees_of c.args.arguments.now) c.args.tree.now c.in-Call.head c.in-Call.inner c.in-Call.span
    c.deref.result.now c.in-Call.is c.deref.ensures.value c.call.result
    c.in_ok-inner-in-Call.inner.items (c.call.ensures none) c.in_ok-inner-in-Call.ensures
