use Rattle.std.proofs.Common.{◌≡◌, ◌<◌, arith}
use Rattle.ambiguity_check.specs.Marked.{IsMarked}
use Rattle.ambiguity_example.proofs.Added.{adds_as}
use Rattle.ambiguity_example.proofs.Lefts.{left_added}
use Rattle.ambiguity_example.proofs.reached_nodes.add_phase.Goals as goal

pub lefts-preserved : goal.lefts-preserved
lefts-preserved c = left_added c.args.level.now c.args.phase c.args.items _ c.lefts.left _ _ _
    c.row.ensures c.lefts.invariant c.in_ok-add_row.ensures

pub returns : goal.returns
returns c = adds_as
    (λ node. (node.phase ≡ c.args.phase) × IsMarked c.args.level.now node
    × (node.left < c.lefts.left))
    (λ node. (node.phase ≡ c.args.phase) × IsMarked c.args.level.now node) _ _ _
    (λ node is. (is.0, is.1))
    (λ node is. (is.0, is.1, (let below = c.end-left-end.ensures.below node is.1 in omega arith)))
    c.lefts.invariant
