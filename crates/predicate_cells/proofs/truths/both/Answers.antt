use Rattle.std.proofs.Common.{◌&&◌, arith}
use Rattle.predicate_cells.proofs.TruthLists.{joined_lists}
use Rattle.predicate_cells.proofs.truths.both.Goals as goal

pub returns : goal.returns
returns c =
    joined_lists (λ a b. a && b) c.args.truths.items c.args.others.now c.loop-at.truths.items
    c.loop-at.invariant.same_length c.requires
    (λ k lt. c.loop-at.invariant.joined k (omega (arith, c.requires)))
