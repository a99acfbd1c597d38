use Rattle.std.proofs.Common.{sym, ap, ◌∙◌, refl}
use Rattle.query_trees.specs.Trees.{Trees, call, none}
use Rattle.query_templates.proofs.Lists.{call_before, made_more}
use Rattle.query_templates.proofs.copies.+copy.Goals as goal

pub copies_of-trees-preserved : goal.copies_of-trees-preserved
copies_of-trees-preserved t c =
    made_more (λ (terms : Trees). terms) (λ a b. refl) c.args.trees.now c.trees.tree-index
    c.tree-item.result c.trees-test.true c.tree-item.is c.trees.copies.items
    c.push.new.self.items c.in_ok-copy_of.field-0 c.in_ok-push.ensures.items c.trees.invariant
    c.in_ok-copy_of.ensures

pub copy_of-returns-in_ok-arguments-in-Call : goal.copy_of-returns-in_ok-arguments-in-Call
copy_of-returns-in_ok-arguments-in-Call t c =
    c.call.ensures none
    ∙ ap (λ (inner : Trees). call c.in-Call.head inner c.in-Call.span none)
    c.in_ok-arguments-in-Call.ensures
    ∙ sym (call_before c.args.tree.now c.in-Call.head c.in-Call.arguments c.in-Call.span
    c.deref.result.now none c.in-Call.is c.deref.ensures.value)
