use Rattle.ambiguity_check.specs.Splits.{left_of, right_of}
use Rattle.ambiguity_example.specs.Met.{HasItem}
use Rattle.ambiguity_example.proofs.MetItems.{all_at, items_more, items_all}
use Rattle.ambiguity_example.proofs.node_items.split_items.Goals as goal

pub split_item-requires-clause-meet : goal.split_item-requires-clause-meet
split_item-requires-clause-meet c = all_at (HasItem c.args.first.now.cells.layout.columns
    (left_of c.args.first.now.sets c.args.second.now.sets)
    (right_of c.args.first.now.sets c.args.second.now.sets)) c.args.nodes.now
    c.nodes.node-index _ c.requires.meet c.nodes-test.true

pub nodes-preserved : goal.nodes-preserved
nodes-preserved c = items_more c.args.first.now.cells.layout.columns
    (left_of c.args.first.now.sets c.args.second.now.sets)
    (right_of c.args.first.now.sets c.args.second.now.sets) c.args.nodes.now
    c.nodes.node-index _ _ _ _ c.nodes-test.true c.nodes.invariant
    c.in_ok-split_item.ensures c.in_ok-push.ensures.items

pub returns : goal.returns
returns c = items_all c.args.first.now.cells.layout.columns
    (left_of c.args.first.now.sets c.args.second.now.sets)
    (right_of c.args.first.now.sets c.args.second.now.sets) c.args.nodes.now c.nodes.node-index _
    c.nodes.auto.node-index-end c.nodes-test.false c.nodes.invariant
