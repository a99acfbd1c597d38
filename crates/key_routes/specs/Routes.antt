-- Statement. Where the items of a stream go when the keys of a collect are divided among shards.
use Rattle.std.specs.Prelude.{◌≡◌, ◌<◌, ◌==◌, ℕ, Bool, true, List, if◌then◌else◌}
use Rattle.value_ops.specs.declared.field.Field.{Field}
use Rattle.predicates.specs.Predicates.{Predicate}
use Rattle.predicates.specs.Truth.{holds}
use Rattle.query_model.specs.Keys.{key_of}
use Rattle.key_shards.specs.Shares.{Division}
use Rattle.key_routes.specs.Hashes.{shard_of_key}
use Rattle.key_routes.specs.declared.route.Route.{Route}
use Rattle.key_routes.specs.declared.route.Route.TheVariants.{All, One}

-- an item that meets the predicate goes to all shards, and any other to the home of its key
abbrev pub route_of : List ℕ → Predicate → ℕ → List Field → Route
route_of chosen sync shards item =
    if holds sync item then All else One (shard_of_key shards (key_of chosen item))

-- whether what goes so comes to this shard
abbrev pub comes_to : ℕ → Route → Bool
comes_to shard All = true
comes_to shard (One home) = home == shard

-- it goes to one of so many shards
abbrev pub IsWithin : ℕ → Route → Type 0
IsWithin shards All = Unit {0}
IsWithin shards (One shard) = shard < shards

-- the home of each key is that of its hash
abbrev pub IsByHash : Division → Type 0
IsByHash division = (key : List ℕ) → division.home key ≡ shard_of_key division.shards key
