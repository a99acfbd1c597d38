-- For the prover. A router and the lines that it has taken.
use Rattle.std.specs.Prelude.{◌≡◌, ℕ, List, [], Some, None, if◌then◌else◌}
use Rattle.io_edge.specs.Lines.{Shown}
use Rattle.predicates.specs.Plain.{plain_of}
use Rattle.key_shards.specs.Collections.{Collection, collection_in}
use Rattle.query_model.specs.Monitors.{Monitor}
use Rattle.stream_run.specs.Output.{is_header, read_of}
use Rattle.shard_run.specs.Routes.{AreRoutes, Read, Routing, routing_for}
use Rattle.shard_run.specs.declared.router.Router.{Router}

-- what it does
abbrev pub routing_of : Router → Routing
routing_of router = record {
  layout = router.schema.now;
  chosen = router.sharding.columns.now;
  sync = plain_of router.sharding.sync.now;
  shards = router.sharding.shards;
}

-- what the next line is read to
abbrev pub read_by : Router → Shown → Read
read_by router line =
    if router.awaits_header then None else read_of router.schema.now.columns line

-- it has taken these lines
pub record IsRouterAfter (routing : Routing) (shown : List Shown) (router : Router) : Type 0 where
  pub routing_is : routing_of router ≡ routing
  pub header : router.awaits_header ≡ is_header routing.layout shown

-- it has taken these lines since the first router had taken none of a stream
abbrev pub StandsAfter : Router → List Shown → Router → Type 0
StandsAfter first shown router =
    (routing : Routing) → IsRouterAfter routing [] first → IsRouterAfter routing shown router

-- the text says where these lines go, which come to a router that has taken none of their stream
abbrev pub SaysRoutes : Router → List Shown → List ℕ → Type 0
SaysRoutes first shown text =
    (routing : Routing) → IsRouterAfter routing [] first → AreRoutes routing shown text

-- the query is a collect, and the router divides its keys and has taken no lines
abbrev pub IsRouterFor : Monitor → ℕ → Router → Type 0
IsRouterFor monitor shards router = (given : Collection)
    × (collection_in monitor.query ≡ Some given)
    × IsRouterAfter (routing_for monitor.layout given shards) [] router
