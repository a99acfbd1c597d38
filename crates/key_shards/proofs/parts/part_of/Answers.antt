-- The query is a collect, and what is made of it is the query of its shards.
use Rattle.std.proofs.Common.{◌≡◌, ◌∙◌, ◌≤◌, ◌<◌, sym, ap, subst, arith}
use Rattle.query_model.specs.Bounds.{slots_of}
use Rattle.query_model.specs.Checked.{IsChecked}
use Rattle.query_model.specs.Queries.{plain_of}
use Rattle.query_model.specs.Sizes.{max_slots}
use Rattle.key_shards.specs.Collections.{Collection, whole_of}
use Rattle.key_shards.proofs.CheckedCollects.{made_of, shard_checked, shard_has, too_large}
use Rattle.key_shards.proofs.CheckedCollects.{with_body}
use Rattle.key_shards.proofs.parts.part_of.Goals as goal

pub returns-then-slots-gt-MAX_SLOTS-clause-too_large :
    goal.returns-then-slots-gt-MAX_SLOTS-clause-too_large
returns-then-slots-gt-MAX_SLOTS-clause-too_large c =
    let given : Collection = made_of c.in-Collect.columns c.in-Collect.sync c.in-Collect.field-2
    c.deref.result.now in
    let is : plain_of c.args.checked.now.main.shape ≡ whole_of given =
    sym (ap (λ q. plain_of q.shape) c.main-main.ensures.main) ∙ ap plain_of c.in-Collect.is
    ∙ with_body c.in-Collect.columns c.in-Collect.sync c.in-Collect.field-2
    c.in-Collect.body.value c.deref.result.now (sym c.deref.ensures) in
    let much : max_slots < slots_of (plain_of c.deref-2.result.now.shape) =
    omega (arith, c.slots.ensures) in
    let many = subst (λ q. max_slots < slots_of (plain_of q.shape)) c.deref-2.ensures much in
    λ same. too_large c.args.checked.now c.main-main.ensures.checked given is
    (subst (λ q. max_slots < slots_of q) c.in_ok-part.ensures many)

pub new-requires : goal.new-requires
new-requires c =
    let given : Collection = made_of c.in-Collect.columns c.in-Collect.sync c.in-Collect.field-2
    c.deref.result.now in
    let is : plain_of c.args.checked.now.main.shape ≡ whole_of given =
    sym (ap (λ q. plain_of q.shape) c.main-main.ensures.main) ∙ ap plain_of c.in-Collect.is
    ∙ with_body c.in-Collect.columns c.in-Collect.sync c.in-Collect.field-2
    c.in-Collect.body.value c.deref.result.now (sym c.deref.ensures) in
    let stream = c.in_ok-schema.ensures ∙ c.schema.ensures.schema in
    let less : slots_of (plain_of c.deref-2.result.now.shape) ≤ max_slots =
    omega (arith, c.slots.ensures) in
    let few = subst (λ q. slots_of (plain_of q.shape) ≤ max_slots) c.deref-2.ensures less in
    subst (λ l. IsChecked (record { layout = l; main = c.in_ok-part.part.value })) (sym stream)
    (shard_checked c.args.checked.now c.main-main.ensures.checked given is c.in_ok-part.part.value
    c.in_ok-part.ensures few)

pub returns-clause-entries : goal.returns-clause-entries
returns-clause-entries c =
    let given : Collection = made_of c.in-Collect.columns c.in-Collect.sync c.in-Collect.field-2
    c.deref.result.now in
    let is : plain_of c.args.checked.now.main.shape ≡ whole_of given =
    sym (ap (λ q. plain_of q.shape) c.main-main.ensures.main) ∙ ap plain_of c.in-Collect.is
    ∙ with_body c.in-Collect.columns c.in-Collect.sync c.in-Collect.field-2
    c.in-Collect.body.value c.deref.result.now (sym c.deref.ensures) in
    shard_has c.args.checked.now c.main-main.ensures.checked given is c.new.result.main
    (ap (λ made. plain_of made.main.shape) c.new.ensures ∙ c.in_ok-part.ensures)
