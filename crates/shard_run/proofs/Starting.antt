-- A collect, and the router that begins for it.
use Rattle.std.proofs.Common.{◌≡◌, ℕ, [], Some, ap}
use Rattle.item_schema.specs.Layout.{Layout}
use Rattle.predicates.specs.Plain as predicates
use Rattle.key_shards.specs.Collections.{Collection, collection_in, whole_of}
use Rattle.query_model.specs.Queries.{Qre}
use Rattle.shard_run.specs.Routers.{IsRouterAfter}
use Rattle.shard_run.specs.Routes.{routing_for}
use Rattle.shard_run.specs.declared.router.Router.{Router}

-- a collect has its parts
pub collects : (query : Qre) (given : Collection) → query ≡ whole_of given
    → collection_in query ≡ Some given
collects query given is = ap collection_in is

-- a router of these parts has taken no lines
pub begins : (router : Router) (layout : Layout) (given : Collection) (shards : ℕ)
    → router.schema.now ≡ layout → router.sharding.columns.now ≡ given.chosen
    → predicates.plain_of router.sharding.sync.now ≡ given.sync
    → router.sharding.shards ≡ shards → router.awaits_header ≡ layout.has_header
    → IsRouterAfter (routing_for layout given shards) [] router
begins router layout given shards schema columns sync count header =
    record { routing_is = cc; header = header }
