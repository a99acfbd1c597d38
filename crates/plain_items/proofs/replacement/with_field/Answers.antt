use Rattle.std.proofs.Common.{◌≡◌, ◌∙◌, ◌+◌, ◌<◌, ℕ, List, [], ◌∷◌, ◌++◌, length, take, get_or, sym}
use Rattle.std.proofs.Common.{ap, subst, arith}
use Rattle.std.proofs.Math.ListN.{set, length-set}
use Rattle.std.proofs.lemmas.List.{take_more, get_or-set_same, get_or-set_other}
use Rattle.value_ops.specs.declared.field.Field.{Field}
use Rattle.plain_items.proofs.replacement.with_field.Goals as goal
use Rattle.plain_items.proofs.replacement.with_field.Goals.{then-at-column, else-at-column}

module _ (xs : List Field) (place at : ℕ) (field : Field) (within : at < length xs) where
  -- in the column stands the field
  here : (d : Field) → at ≡ place → field ≡ get_or (set xs place field) at d
  here d same = subst (λ (i : ℕ). field ≡ get_or (set xs place field) i d) (sym same)
      (sym (get_or-set_same xs place field d (omega (arith, same, within))))

  -- elsewhere stands what stood there
  elsewhere : (own : Field) → own ≡ get_or xs at own → (at ≡ place → ⊥)
      → own ≡ get_or (set xs place field) at own
  elsewhere own is differ = is ∙ sym (get_or-set_other xs place at field own differ)

  one_more : (fields new : List Field) (chosen copy : Field) → fields ≡ take at (set xs place field)
      → new ≡ fields ++ copy ∷ [] → copy ≡ chosen → chosen ≡ get_or (set xs place field) at chosen
      → new ≡ take (at + 1) (set xs place field)
  one_more fields new chosen copy so_far pushed same is =
      let lt : at < length (set xs place field) =
      omega (arith, length-set xs place field, within) in
      pushed ∙ ap (λ (ys : List Field). ys ++ copy ∷ []) so_far
      ∙ ap (λ (f : Field). take at (set xs place field) ++ f ∷ []) (same ∙ is)
      ∙ sym (take_more (set xs place field) at chosen lt)

pub fields-preserved : goal.fields-preserved
fields-preserved c =
    let within = rw c.fields-own-items.ensures at c.fields-test.true in
    let own = rw c.fields-own-items.ensures at c.own-item.is in
    elim c.if-at-column.branch [
      | then-at-column w ↦
          let chosen : c.if-at-column.chosen.now ≡ c.args.field.now = cc in
          one_more c.args.item.now c.args.column c.fields.at c.args.field.now within _ _
          c.args.field.now _ c.fields.invariant c.in_ok-push.ensures.items
          (c.in_ok-try_copy.ensures.equal ∙ chosen)
          (here c.args.item.now c.args.column c.fields.at c.args.field.now within c.args.field.now
          w.if-at-column.true)
      | else-at-column w ↦
          let chosen : c.if-at-column.chosen.now ≡ c.own-item.result = cc in
          one_more c.args.item.now c.args.column c.fields.at c.args.field.now within _ _
          c.own-item.result _ c.fields.invariant c.in_ok-push.ensures.items
          (c.in_ok-try_copy.ensures.equal ∙ chosen)
          (elsewhere c.args.item.now c.args.column c.fields.at c.args.field.now within
          c.own-item.result own w.if-at-column.false)
    ]
