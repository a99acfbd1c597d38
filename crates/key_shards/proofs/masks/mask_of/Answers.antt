-- The query is a collect, and what is made of it is its mask.
use Rattle.std.proofs.Common.{◌≡◌, ◌∙◌, sym, ap, subst}
use Rattle.query_model.specs.Checked.{IsChecked}
use Rattle.query_model.specs.Queries.{plain_of}
use Rattle.key_shards.specs.Collections.{Collection, whole_of}
use Rattle.key_shards.proofs.CheckedCollects.{made_of, mask_checked, mask_defined}
use Rattle.key_shards.proofs.masks.mask_of.Goals as goal

pub new-requires : goal.new-requires
new-requires c =
    let given : Collection = made_of c.in-Collect.columns c.in-Collect.field-1 c.in-Collect.rate
    c.in-Collect.field-3.value in
    let is : plain_of c.args.checked.now.main.shape ≡ whole_of given =
    sym (ap (λ q. plain_of q.shape) c.main-main.ensures.main) ∙ ap plain_of c.in-Collect.is in
    let stream = c.in_ok-schema.ensures ∙ c.schema.ensures.schema in
    subst (λ l. IsChecked (record { layout = l; main = c.in_ok-mask.mask.value })) (sym stream)
    (mask_checked c.args.checked.now c.main-main.ensures.checked given is c.in_ok-mask.mask.value
    c.in_ok-mask.ensures)

pub returns-clause-defined : goal.returns-clause-defined
returns-clause-defined c =
    let given : Collection = made_of c.in-Collect.columns c.in-Collect.field-1 c.in-Collect.rate
    c.in-Collect.field-3.value in
    let is : plain_of c.args.checked.now.main.shape ≡ whole_of given =
    sym (ap (λ q. plain_of q.shape) c.main-main.ensures.main) ∙ ap plain_of c.in-Collect.is in
    mask_defined c.args.checked.now c.main-main.ensures.checked given is c.new.result.main
    (ap (λ made. plain_of made.main.shape) c.new.ensures ∙ c.in_ok-mask.ensures)
