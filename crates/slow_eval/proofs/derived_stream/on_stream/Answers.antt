use Rattle.std.proofs.Common.{rules, ◌<◌, ◌∙◌, ◌++◌, ◌+◌, ◌∷◌, [], length, sym, subst, ap, arith}
use Rattle.slow_eval.proofs.Joining.{read_answer}
use Rattle.slow_eval.proofs.Streaming.{IsOnStreamSoFar, items_inside, on_none, on_some}
use Rattle.slow_eval.proofs.derived_stream.on_stream.Goals as goal
use Rattle.slow_eval.proofs.derived_stream.on_stream.Goals.{in-Some+in_ok-copied-in-Some, in-None}

pub bounds-seconds-items : goal.bounds-seconds-items
bounds-seconds-items c =
    let firsts = c.args.firsts.now in
    let at = c.answers.first-index in
    let read = read_answer firsts at c.first-item.result c.first-item.is (omega arith) in
    let inside =
    items_inside firsts c.args.seconds.now c.answers.row.items at c.answers.items c.in-Some.field-0
    c.answers.invariant (omega arith) (read ∙ c.in-Some.is) in
    omega (arith, c.requires, inside)

pub overflow_add-items : goal.overflow_add-items
overflow_add-items c = let below = bounds-seconds-items c in search (rules, arith)

pub offset_bounds-seconds-items : goal.offset_bounds-seconds-items
offset_bounds-seconds-items c = let below = bounds-seconds-items c in search (rules, arith)

pub answers-preserved : goal.answers-preserved
answers-preserved c =
    let firsts = c.args.firsts.now in
    let seconds = c.args.seconds.now in
    let row = c.answers.row.items in
    let at = c.answers.first-index in
    let items = c.answers.items in
    let so_far : IsOnStreamSoFar firsts seconds row at items = c.answers.invariant in
    let read = read_answer firsts at c.first-item.result c.first-item.is (omega arith) in
    elim c.match-first.branch [
      | in-Some+in_ok-copied-in-Some w ↦
          let answer = w.in_ok-copied-in-Some.field-0 in
          let inside =
          items_inside firsts seconds row at items w.in-Some.field-0 so_far (omega arith)
          (read ∙ w.in-Some.is) in
          let below : items + 1 < length seconds = omega (arith, c.requires, inside) in
          subst (λ n. IsOnStreamSoFar firsts seconds c.push.new.self.items (at + 1) n)
          (sym w.items-is) (subst (λ r. IsOnStreamSoFar firsts seconds r (at + 1) (items + 1))
          (sym (c.in_ok-push.ensures.items ∙ ap (λ a. row ++ a ∷ []) w.push-is))
          (on_some firsts seconds row at items w.in-Some.field-0 answer so_far (omega arith)
          (read ∙ w.in-Some.is) (w.in_ok-copied-in-Some.ensures
          ∙ sym (read_answer seconds (items + 1) w.index-seconds-items.result
          w.index-seconds-items.is below))))
      | in-None w ↦
          subst (λ n. IsOnStreamSoFar firsts seconds c.push.new.self.items (at + 1) n)
          (sym w.items-is) (subst (λ r. IsOnStreamSoFar firsts seconds r (at + 1) items)
          (sym (c.in_ok-push.ensures.items ∙ ap (λ a. row ++ a ∷ []) w.push-is))
          (on_none firsts seconds row at items so_far (omega arith) (read ∙ w.in-None.is)))
    ]
