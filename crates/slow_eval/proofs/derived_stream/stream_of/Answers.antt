use Rattle.std.proofs.Common.{◌∙◌, ◌++◌, ◌∷◌, [], take, sym, ap, arith}
use Rattle.slow_eval.specs.Streams.{stream_of}
use Rattle.slow_eval.proofs.Joining.{read_answer}
use Rattle.slow_eval.proofs.Streaming.{stream_none, stream_some}
use Rattle.slow_eval.proofs.derived_stream.stream_of.Goals as goal
use Rattle.slow_eval.proofs.derived_stream.stream_of.Goals.{in-Some+in_ok-item_of+in_ok-push}
use Rattle.slow_eval.proofs.derived_stream.stream_of.Goals.{in_default}

pub answers-preserved : goal.answers-preserved
answers-preserved c =
    let firsts = c.args.answers.now in
    let at = c.answers.answer-index in
    let read = read_answer firsts at c.answer-item.result c.answer-item.is (omega arith) in
    elim c.match-answer.branch [
      | in-Some+in_ok-item_of+in_ok-push w ↦
          ap (λ v. v.items) w.stream-is ∙ w.in_ok-push.ensures.items
          ∙ ap (λ s. s ++ w.in_ok-item_of.field-0 ∷ []) c.answers.invariant
          ∙ ap (λ i. stream_of (take at firsts) ++ i ∷ []) w.in_ok-item_of.ensures
          ∙ sym (stream_some firsts at w.in-Some.value (omega arith) (read ∙ w.in-Some.is))
      | in_default w ↦
          ap (λ v. v.items) w.stream-is ∙ c.answers.invariant
          ∙ sym (stream_none firsts at (omega arith) (read ∙ w.in_default.is))
    ]
