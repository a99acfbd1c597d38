use Rattle.std.proofs.Common.{◌≡◌, ◌+◌, ◌∙◌, ◌++◌, ◌∷◌, [], length, sym, subst, ap, arith}
use Rattle.predicates.specs.Plain.{plain_of}
use Rattle.query_model.specs.Denotation.{with_key}
use Rattle.slow_eval.proofs.Keying.{AreKeysSoFar, and_added, and_kept, keys_and, keys_step}
use Rattle.slow_eval.proofs.keys.keys_of.Goals as goal
use Rattle.slow_eval.proofs.keys.keys_of.Goals.{then-not-holds+in_ok-joined_key+in_ok-add}
use Rattle.slow_eval.proofs.keys.keys_of.Goals.{else-not-holds}

pub items-preserved : goal.items-preserved
items-preserved c =
    let chosen = c.args.columns.now in
    let sync = plain_of c.args.sync.now in
    let word = c.args.word.now in
    let keys = c.items.keys.items in
    let item = c.item-item.result in
    let new = c.if-not-holds.keys.items in
    let is : new ≡ keys_and chosen sync keys item =
    elim c.if-not-holds.branch [
      | then-not-holds+in_ok-joined_key+in_ok-add w ↦
          ap (λ v. v.items) w.keys-is ∙ w.in_ok-add.ensures
          ∙ ap (with_key keys) w.in_ok-joined_key.ensures.key
          ∙ sym (and_added chosen sync keys item (sym c.holds.ensures ∙ w.if-not-holds.true))
      | else-not-holds w ↦
          ap (λ v. v.items) w.keys-is
          ∙ sym (and_kept chosen sync keys item (sym c.holds.ensures ∙ w.if-not-holds.false))
    ] in
    let long : c.if-not-holds.keys.len ≡ length new = omega (arith, c.if-not-holds.keys.ok.0) in
    subst (AreKeysSoFar chosen sync word (c.items.item-index + 1) new)
    (sym (c.in_ok-push-2.ensures.items
    ∙ ap (λ n. c.items.counts.items ++ n ∷ []) (c.len.ensures ∙ long)))
    (keys_step chosen sync word c.items.item-index keys new c.items.counts.items item
    c.items.invariant (omega arith) (sym c.item-item.is) is)
