use Rattle.std.proofs.Common.{◌-◌, get_or, refl, arith}
use Rattle.ambiguity_check.specs.declared.graph.Node.{Node}
use Rattle.ambiguity_check.specs.declared.graph.Phase.TheVariants.{Together}
use Rattle.ambiguity_example.proofs.Deciding.{not_both}
use Rattle.ambiguity_example.proofs.Turned.{turns_stay, turns_end, turns_over}
use Rattle.ambiguity_example.proofs.turns.cuts_of.Goals as goal
use Rattle.ambiguity_example.proofs.turns.cuts_of.Goals.{then-not-stays+in_ok-push-2}
use Rattle.ambiguity_example.proofs.turns.cuts_of.Goals.{else-not-stays}

pub nodes-preserved : goal.nodes-preserved
nodes-preserved c =
    let none : Node = record { phase = Together; left = 0; right = 0 } in
    let before : Node = get_or c.args.walk.now (c.nodes.at - 1) none in
    let node : Node = get_or c.args.walk.now c.nodes.at none in
    elim c.if-not-stays.branch [
      | then-not-stays+in_ok-push-2 w ↦ rw w.cuts-is (turns_end c.args.positions.now c.args.side
          c.args.walk.now c.nodes.at c.nodes.cuts.items _ before node none none
          c.nodes-test.true refl refl
          (λ stays. not_both c.stays.result (c.stays.ensures.1 stays) w.if-not-stays.true)
          w.in_ok-push-2.ensures.items c.nodes.invariant)
      | else-not-stays w ↦ rw w.cuts-is (turns_stay c.args.positions.now c.args.side
          c.args.walk.now c.nodes.at c.nodes.cuts.items before node none none
          c.nodes-test.true refl refl (c.stays.ensures.0 w.if-not-stays.false) c.nodes.invariant)
    ]

pub returns : goal.returns
returns c =
    let none : Node = record { phase = Together; left = 0; right = 0 } in
    rw c.from_vec.ensures (turns_over c.args.positions.now c.args.side c.args.walk.now c.nodes.at
    c.nodes.cuts.items _ none (omega arith) c.nodes-test.false c.in_ok-push-3.ensures.items
    c.nodes.invariant)
