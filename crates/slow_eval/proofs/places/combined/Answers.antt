use Rattle.std.proofs.Common.{arith, ◌∙◌}
use Rattle.slow_eval.proofs.Joining.{read_answer}
use Rattle.slow_eval.proofs.places.combined.Goals as goal

pub on_both-requires : goal.on_both-requires
on_both-requires c = λ x y left right.
    let left_is = read_answer c.args.row.now c.places.place c.index-row-place.result
    c.index-row-place.is (omega arith) in
    let right_is = read_answer c.args.other.now c.places.place c.index-other-place.result
    c.index-other-place.is (omega arith) in
    c.requires.typed c.places.place x y (left_is ∙ left) (right_is ∙ right)
