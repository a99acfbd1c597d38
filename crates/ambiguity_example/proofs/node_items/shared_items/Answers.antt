use Rattle.ambiguity_example.specs.Met.{HasItem}
use Rattle.ambiguity_example.proofs.MetItems.{all_at, items_more, items_all}
use Rattle.ambiguity_example.proofs.node_items.shared_items.Goals as goal

pub shared_item-requires-clause-meet : goal.shared_item-requires-clause-meet
shared_item-requires-clause-meet c = all_at (HasItem c.args.first.now.cells.layout.columns
    (λ _. c.args.first.now.sets) (λ _. c.args.second.now.sets)) c.args.nodes.now
    c.nodes.node-index _ c.requires.meet c.nodes-test.true

pub nodes-preserved : goal.nodes-preserved
nodes-preserved c = items_more c.args.first.now.cells.layout.columns
    (λ _. c.args.first.now.sets) (λ _. c.args.second.now.sets) c.args.nodes.now
    c.nodes.node-index _ _ _ _ c.nodes-test.true c.nodes.invariant
    c.in_ok-shared_item.ensures c.in_ok-push.ensures.items

pub returns : goal.returns
returns c = items_all c.args.first.now.cells.layout.columns
    (λ _. c.args.first.now.sets) (λ _. c.args.second.now.sets) c.args.nodes.now c.nodes.node-index _
    c.nodes.auto.node-index-end c.nodes-test.false c.nodes.invariant
