use Rattle.std.proofs.Common.{not, arith}
use Rattle.std.proofs.lemmas.List.Edits.{map_over_more}
use Rattle.predicate_cells.proofs.truths.negated.Goals as goal

pub loop-at-preserved : goal.loop-at-preserved
loop-at-preserved c =
    map_over_more not c.args.truths.items c.loop-at.truths.items c.loop-at.at c.index.result.now
    (omega (arith, c.args.truths.ok)) c.loop-at.invariant c.index.ensures
