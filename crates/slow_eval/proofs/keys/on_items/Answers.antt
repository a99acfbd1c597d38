use Rattle.std.proofs.Common.{rules, ◌≡◌, ◌<◌, ◌∙◌, ◌+◌, length, take, sym, subst, arith}
use Rattle.predicates.specs.Plain.{plain_of}
use Rattle.query_model.specs.Denotation.{projection}
use Rattle.slow_eval.proofs.Joining.{read_answer}
use Rattle.slow_eval.proofs.Keying.{IsOnItemsSoFar, counted, items_step, passed, projection_shorter}
use Rattle.slow_eval.proofs.keys.on_items.Goals as goal
use Rattle.slow_eval.proofs.keys.on_items.Goals.{then-counts, else-counts}

pub overflow_add-items : goal.overflow_add-items
overflow_add-items c =
    let chosen = c.args.columns.now in
    let sync = plain_of c.args.sync.now in
    let key = c.args.key.now in
    let word = c.args.word.now in
    let at = c.items.item-index in
    let are =
    counted chosen sync key word at c.items.items c.item-item.result
    c.items.invariant.items_are (omega arith) (sym c.item-item.is)
    (sym c.in_ok-counts.ensures ∙ c.if-counts.true) in
    let shorter = projection_shorter chosen sync key word (at + 1) in
    let below : c.items.items + 1 < length c.args.answers.now =
    omega (arith, c.requires, are, shorter) in
    search (rules, arith)

pub bounds-answers-items : goal.bounds-answers-items
bounds-answers-items c =
    let chosen = c.args.columns.now in
    let sync = plain_of c.args.sync.now in
    let key = c.args.key.now in
    let word = c.args.word.now in
    let at = c.items.item-index in
    let are : c.if-counts.items ≡ length (projection chosen sync key (take (at + 1) word)) =
    elim c.if-counts.branch [
      | then-counts w ↦
          w.items-is
          ∙ counted chosen sync key word at c.items.items c.item-item.result
          c.items.invariant.items_are (omega arith) (sym c.item-item.is)
          (sym c.in_ok-counts.ensures ∙ w.if-counts.true)
      | else-counts w ↦
          w.items-is
          ∙ passed chosen sync key word at c.items.items c.item-item.result
          c.items.invariant.items_are (omega arith) (sym c.item-item.is)
          (sym c.in_ok-counts.ensures ∙ w.if-counts.false)
    ] in
    let shorter = projection_shorter chosen sync key word (at + 1) in
    omega (arith, c.requires, are, shorter)

pub offset_bounds-answers-items : goal.offset_bounds-answers-items
offset_bounds-answers-items c = let below = bounds-answers-items c in search (rules, arith)

pub items-preserved : goal.items-preserved
items-preserved c =
    let chosen = c.args.columns.now in
    let sync = plain_of c.args.sync.now in
    let key = c.args.key.now in
    let word = c.args.word.now in
    let at = c.items.item-index in
    let answers = c.args.answers.now in
    let row = c.items.row.items in
    let after = c.if-counts.items in
    let answer = c.in_ok-copied-2.field-0 in
    let are : c.if-counts.items ≡ length (projection chosen sync key (take (at + 1) word)) =
    elim c.if-counts.branch [
      | then-counts w ↦
          w.items-is
          ∙ counted chosen sync key word at c.items.items c.item-item.result
          c.items.invariant.items_are (omega arith) (sym c.item-item.is)
          (sym c.in_ok-counts.ensures ∙ w.if-counts.true)
      | else-counts w ↦
          w.items-is
          ∙ passed chosen sync key word at c.items.items c.item-item.result
          c.items.invariant.items_are (omega arith) (sym c.item-item.is)
          (sym c.in_ok-counts.ensures ∙ w.if-counts.false)
    ] in
    let shorter = projection_shorter chosen sync key word (at + 1) in
    let below : after < length answers = omega (arith, c.requires, are, shorter) in
    subst (λ r. IsOnItemsSoFar chosen sync key word answers r (at + 1) after)
    (sym c.in_ok-push-2.ensures.items)
    (items_step chosen sync key word answers row at c.items.items after answer c.items.invariant are
    (c.in_ok-copied-2.ensures
    ∙ sym (read_answer answers after c.index-answers-items.result c.index-answers-items.is below)))
