use Rattle.std.proofs.Common.{◌≡◌, ◌∙◌, sym, ap}
use Rattle.key_shards.proofs.CheckedCollects.{made_of}
use Rattle.key_shards.specs.Collections.{Collection, whole_of}
use Rattle.predicates.specs.Plain as predicates
use Rattle.query_model.specs.Queries.{plain_of}
use Rattle.shard_run.specs.declared.router.Router.{Router}
use Rattle.shard_run.proofs.Starting.{begins, collects}
use Rattle.shard_run.proofs.engine.router_for.Goals as goal

pub returns-clause-router : goal.returns-clause-router
returns-clause-router c =
    let checked = c.args.checked.now in
    let given : Collection = made_of c.in-Collect.columns c.in-Collect.sync c.in-Collect.field-2
    c.in-Collect.field-3.value in
    let is : plain_of checked.main.shape ≡ whole_of given =
    sym (ap (λ q. plain_of q.shape) c.main-main.ensures.main) ∙ ap plain_of c.in-Collect.is in
    let new = c.new.ensures in
    let stream = c.schema.ensures.schema in (
      given,
      collects (plain_of checked.main.shape) given is,
      begins c.new.result checked.layout given c.args.shards
          (ap (λ (r : Router). r.schema.now) new ∙ stream)
          (ap (λ (r : Router). r.sharding.columns.now) new ∙ c.as_slice-columns.ensures.columns)
          (ap (λ (r : Router). predicates.plain_of r.sharding.sync.now) new)
          (ap (λ (r : Router). r.sharding.shards) new)
          (ap (λ (r : Router). r.awaits_header) new ∙ ap (λ l. l.has_header) stream),
    )
