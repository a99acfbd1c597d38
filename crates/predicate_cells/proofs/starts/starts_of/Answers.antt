use Rattle.std.proofs.Common.{◌∙◌, take_all}
use Rattle.std.proofs.lemmas.List.Filters.{dedup_is}
use Rattle.predicate_cells.proofs.Deduped.{dedup_of_numbers}
use Rattle.predicate_cells.proofs.starts.starts_of.Goals as goal

pub returns : goal.returns
returns c =
    let all = take_all c.loop-pred.pred-index c.args.preds.now c.loop-pred-test.false in
    let starts = rw all at c.loop-pred.invariant in
    dedup_is _ _ _ c.dedup.ensures.filtered
    ∙ dedup_of_numbers _ _ (rw (← starts) c.sort_unstable.ensures.permutation)
    c.sort_unstable.ensures.sorted
