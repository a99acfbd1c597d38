use Rattle.std.proofs.Common.{◌≡◌, ◌+◌, get_or, refl, ◌∙◌, arith, rules}
use Rattle.ambiguity_check.specs.declared.graph.Node.{Node}
use Rattle.ambiguity_check.specs.declared.graph.Phase.TheVariants.{Together}
use Rattle.ambiguity_example.proofs.Counted.{counted, same_phase, other_phase}
use Rattle.ambiguity_example.proofs.two_splits.count_of.Goals as goal
use Rattle.ambiguity_example.proofs.two_splits.count_of.Goals.{then-eq, else-eq}

pub nodes-preserved : goal.nodes-preserved
nodes-preserved c =
    let none : Node = record { phase = Together; left = 0; right = 0 } in
    let node : Node = get_or c.args.nodes.now c.nodes.node-index none in
    elim c.if-eq.branch [
      | then-eq w ↦
          let same : node.phase ≡ c.args.phase = search rules in
          let more = counted c.args.phase c.args.nodes.now c.nodes.node-index node
          none c.nodes.count 1 c.nodes-test.true refl c.nodes.invariant.0
          (same_phase c.args.phase node.phase same) in
          let few = c.nodes.invariant.1 in
          (w.count-is ∙ more, omega (arith, w.count-is))
      | else-eq w ↦
          let other : node.phase ≡ c.args.phase → ⊥ = search rules in
          let more = counted c.args.phase c.args.nodes.now c.nodes.node-index node
          none c.nodes.count 0 c.nodes-test.true refl c.nodes.invariant.0
          (other_phase c.args.phase node.phase other) in
          let few = c.nodes.invariant.1 in
          let kept : c.nodes.count ≡ c.nodes.count + 0 = omega arith in
          (w.count-is ∙ kept ∙ more, omega (arith, w.count-is))
    ]
