use Rattle.std.proofs.Common.{ℕ, List, map, take_all, nat_cmp, ap, ◌∙◌, Bor}
use Rattle.std.specs.Cmp.Lexicographic.{slice_cmp}
use Rattle.std.proofs.lemmas.List.Filters.{dedup_is}
use Rattle.predicate_cells.specs.Rising.{rising}
use Rattle.predicate_cells.proofs.Deduped.{dedup_of_texts}
use Rattle.predicate_cells.proofs.texts.texts_of.Goals as goal

pub returns : goal.returns
returns c =
    let all = take_all c.loop-pred.pred-index c.args.preds.now c.loop-pred-test.false in
    let named = rw all at c.loop-pred.invariant in
    let now = λ (t : Bor (List ℕ)). t.now in
    let sorted = dedup_of_texts c.loop-pred.named.items c.sort_unstable.new.self.items
    c.sort_unstable.ensures.permutation c.sort_unstable.ensures.sorted in
    let is = ap (map now) (c.deref.ensures.value ∙ dedup_is _ _ _ c.dedup.ensures.filtered) ∙ sorted
    ∙ ap (rising (slice_cmp nat_cmp)) named in
    rw is at c.copies_of.ensures
