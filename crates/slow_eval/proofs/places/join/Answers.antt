use Rattle.std.proofs.Common.{arith, ◌∙◌}
use Rattle.slow_eval.proofs.Joining.{read_answer}
use Rattle.slow_eval.proofs.places.join.Goals as goal

pub put-requires : goal.put-requires
put-requires c = λ value right.
    let right_is = read_answer c.args.rights.now c.places.place c.index-rights-place.result
    c.index-rights-place.is (omega arith) in
    c.requires.typed c.places.place value (right_is ∙ right)
