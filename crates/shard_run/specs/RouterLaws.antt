-- For the prover. A router that takes no line.
use Rattle.std.specs.Prelude.{◌≡◌, Bool, true, false, List, []}
use Rattle.std.specs.List.{flat_map}
use Rattle.std.proofs.Common.{refl, sym, ap}
use Rattle.item_schema.specs.declared.column.Column.{Column}
use Rattle.shard_run.specs.Routers.{SaysRoutes, StandsAfter}
use Rattle.shard_run.specs.Routes.{Read, Routing, line_route, reads_of, routes}
use Rattle.shard_run.specs.Texts.{route_text}
use Rattle.shard_run.specs.declared.router.Router.{Router}

-- it stands where it is
pub same_router : (router : Router) → StandsAfter router [] router
same_router router routing after = after

-- by whether there is a header
nothing_with : (columns : List Column) (has_header : Bool)
    → reads_of (record { has_header = has_header; columns = columns }) [] ≡ []
nothing_with columns true = refl
nothing_with columns false = refl

-- of no lines nothing is written
routes_none : (routing : Routing) → routes routing [] ≡ []
routes_none routing =
    ap (flat_map (λ read. route_text (line_route routing read)))
    (nothing_with routing.layout.columns routing.layout.has_header)

pub routes_nothing : (router : Router) → SaysRoutes router [] []
routes_nothing router routing after = sym (routes_none routing)
