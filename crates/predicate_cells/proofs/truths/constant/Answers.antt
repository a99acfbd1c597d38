use Rattle.std.proofs.Common.{◌≡◌, Bool, replicate}
use Rattle.std.proofs.lemmas.Result.{IfOk-weaker}
use Rattle.predicate_cells.proofs.truths.constant.Goals as goal

pub returns : goal.returns
returns c =
    let n = c.args.count in
    let truth = c.args.truth in
    IfOk-weaker c.vec.result
    (λ v. ((y : Bool) → y ≡ truth → y ≡ truth) → v.items ≡ replicate n truth)
    (λ v. v.items ≡ replicate n truth) (λ v h. h (λ y e. e)) c.vec.ensures.items_if_clones_equal
