use Rattle.std.proofs.Common.{sym, subst}
use Rattle.query_trees.specs.Trees.{Trees, none, trees_of}
use Rattle.query_templates.specs.Expansion.{filled}
use Rattle.query_templates.specs.Extents.{extent_of}
use Rattle.query_templates.specs.Measured.{IsExtentOf}
use Rattle.query_templates.specs.Plain.{plain_template}
use Rattle.query_templates.proofs.Expanding.{filled-joined}
use Rattle.query_templates.proofs.Lists.{call_before}
use Rattle.query_templates.proofs.Measuring.{call_counted, counted_more}
use Rattle.query_templates.proofs.measure.+measure_body.Goals as goal

pub filled_extents-trees-preserved : goal.filled_extents-trees-preserved
filled_extents-trees-preserved t c = λ arguments are.
    let template = plain_template c.args.template.now in
    counted_more (filled c.args.text.now template arguments)
    (filled-joined c.args.text.now template arguments) c.args.trees.now c.trees.tree-index
    c.tree-item.result c.trees-test.true c.tree-item.is c.beside-sum.result
    (c.beside-sum.ensures _ _ (c.trees.invariant arguments are)
    (c.filled_extent.ensures arguments are))

pub filled_extent-returns-in-Call : goal.filled_extent-returns-in-Call
filled_extent-returns-in-Call t c = λ arguments are.
    let text = c.args.text.now in
    let template = plain_template c.args.template.now in
    let inner = filled text template arguments (trees_of c.deref.result.now) in
    subst (λ (terms : Trees). IsExtentOf (filled text template arguments terms) c.in_call.result)
    (sym (call_before c.args.tree.now c.in-Call.head c.in-Call.inner c.in-Call.field-2
    c.deref.result.now none c.in-Call.is c.deref.ensures.value))
    (call_counted c.in-Call.head inner c.in-Call.field-2 c.in_call.result
    (c.in_call.ensures (extent_of inner) (c.filled_extents.ensures arguments are)))
