-- The items of the lines that come to a shard.
use Rattle.std.proofs.Common.{◌≡◌, ◌++◌, ℕ, Bool, true, false, cond, List, [], ◌∷◌, filter, map}
use Rattle.std.proofs.Common.{Some, None, Ok, Err, refl, sym, ap, ◌∙◌}
use Rattle.std.proofs.lemmas.List.Folds.{flat_map-map}
use Rattle.std.specs.List.{flat_map}
use Rattle.io_edge.specs.Lines.{Shown}
use Rattle.value_ops.specs.declared.field.Field.{Field}
use Rattle.item_schema.specs.Layout.{Layout}
use Rattle.item_schema.specs.declared.column.Column.{Column}
use Rattle.rate_expr.specs.Words.{Word}
use Rattle.key_routes.specs.Routes.{IsByHash, comes_to, route_of}
use Rattle.key_routes.proofs.Sending.{share_sent}
use Rattle.key_shards.specs.Collections.{Collection}
use Rattle.key_shards.specs.Shares.{Division, is_home, share}
use Rattle.stream_run.specs.Output.{body_of, item_in, items_of, read_of}
use Rattle.shard_run.specs.Routes.{Read, Routing, header_reads, items_at, line_comes_to, line_route}
use Rattle.shard_run.specs.Routes.{reads_of, routing_for}

-- the items that a routing sends to a shard
abbrev sent : Routing → ℕ → Word → Word
sent routing shard word = filter
    (λ item. comes_to shard (route_of routing.chosen routing.sync routing.shards item)) word

-- an item that comes, or does not
with_item : (comes : Bool) (item : List Field) (reads : List Read) (word : Word)
    → flat_map item_in reads ≡ word
    → flat_map item_in (cond comes ((Some (Ok item)) ∷ reads) reads) ≡ cond comes (item ∷ word) word
with_item true item reads word same = ap (λ (w : Word). item ∷ w) same
with_item false item reads word same = same

-- the items of those lines that come are those of all that come
items_kept : (routing : Routing) (shard : ℕ) (reads : List Read)
    → flat_map item_in (filter (λ read. line_comes_to shard (line_route routing read)) reads)
    ≡ sent routing shard (flat_map item_in reads)
items_kept routing shard [] = refl
items_kept routing shard (None ∷ reads) = items_kept routing shard reads
items_kept routing shard ((Some (Err why)) ∷ reads) = items_kept routing shard reads
items_kept routing shard ((Some (Ok item)) ∷ reads) =
    with_item (comes_to shard (route_of routing.chosen routing.sync routing.shards item)) item
    (filter (λ read. line_comes_to shard (line_route routing read)) reads)
    (sent routing shard (flat_map item_in reads)) (items_kept routing shard reads)

-- the header has no item
body_items : (columns : List Column) (has_header : Bool) (shown : List Shown)
    → flat_map item_in (header_reads has_header shown ++ map (read_of columns)
    (body_of has_header shown))
    ≡ flat_map (λ line. item_in (read_of columns line)) (body_of has_header shown)
body_items columns true [] = refl
body_items columns true (first ∷ shown) = flat_map-map item_in (read_of columns) shown
body_items columns false shown = flat_map-map item_in (read_of columns) shown

-- the items of all lines
items_read : (layout : Layout) (shown : List Shown)
    → flat_map item_in (reads_of layout shown) ≡ items_of layout shown
items_read layout shown = body_items layout.columns layout.has_header shown

-- a shard has its share of them
pub items_shared : (layout : Layout) (given : Collection) (division : Division) (shard : ℕ)
    (shown : List Shown) → IsByHash division
    → items_at (routing_for layout given division.shards) shard shown
    ≡ share given (is_home division shard) (items_of layout shown)
items_shared layout given division shard shown by_hash =
    let routing = routing_for layout given division.shards in
    items_kept routing shard (reads_of layout shown)
    ∙ ap (sent routing shard) (items_read layout shown)
    ∙ sym (share_sent given division shard (items_of layout shown) by_hash)
