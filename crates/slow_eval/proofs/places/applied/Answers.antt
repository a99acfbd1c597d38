use Rattle.std.proofs.Common.{arith}
use Rattle.slow_eval.proofs.Joining.{read_answer}
use Rattle.slow_eval.proofs.places.applied.Goals as goal

pub eval-requires : goal.eval-requires
eval-requires c =
    let read = read_answer c.args.row.now c.places.answer-index c.answer-item.result
    c.answer-item.is (omega arith) in
    c.requires c.places.answer-index c.in-Some.left (cc)
