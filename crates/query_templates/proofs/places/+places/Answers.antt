use Rattle.std.proofs.Common.{◌≡◌, ◌++◌}
use Rattle.query_trees.specs.Trees.{none, tree_before, trees_of}
use Rattle.query_templates.specs.Origins.{node_places}
use Rattle.query_templates.proofs.NodePlaces.{call_listed, listed_more, places-joined}
use Rattle.query_templates.proofs.Using.{ok_map}
use Rattle.query_templates.proofs.places.+places.Goals as goal

pub add_all-trees-preserved : goal.add_all-trees-preserved
add_all-trees-preserved t c =
    listed_more node_places places-joined c.args.trees.now c.trees.tree-index c.tree-item.result
    c.trees-test.true c.tree-item.is c.args.places.now.items c.trees.places.items
    c.add_each.new.places.items c.trees.invariant c.in_ok-add_each.ensures

pub add_each-returns-in_ok-push-in-Call-2 : goal.add_each-returns-in_ok-push-in-Call-2
add_each-returns-in_ok-push-in-Call-2 t c =
    let old = c.args.places.now.items in
    let one = c.push-in-Call.new.self.items in
    let two = c.push-in-Call-2.new.self.items in
    let new = c.add_all.new.places.items in
    ok_map c.add_all.result
    (λ _. new ≡ two ++ node_places (trees_of c.deref.result.now))
    (λ _. new ≡ old ++ node_places (tree_before c.args.tree.now none))
    (λ _ more. call_listed c.args.tree.now c.in-Call.head c.in-Call.arguments c.in-Call.span
    c.deref.result.now c.in-Call.is c.deref.ensures.value old one two new
    c.in_ok-push-in-Call.ensures.items c.in_ok-push-in-Call-2.ensures.items more)
    c.add_all.ensures
