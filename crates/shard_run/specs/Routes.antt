-- Statement. Where the lines of a stream go, and what is written of them.
use Rattle.std.specs.Prelude.{◌≡◌, ℕ, Bool, true, false, List, [], ◌∷◌, ◌++◌, filter, map, Option}
use Rattle.std.specs.Prelude.{Some, None, Result, Ok, Err}
use Rattle.std.specs.List.{flat_map}
use Rattle.io_edge.specs.Lines.{Shown}
use Rattle.value_ops.specs.declared.field.Field.{Field}
use Rattle.item_schema.specs.Layout.{Layout}
use Rattle.line_reader.specs.declared.stop.Skip.{Skip}
use Rattle.predicates.specs.Predicates.{Predicate}
use Rattle.rate_expr.specs.Words.{Word}
use Rattle.key_shards.specs.Collections.{Collection}
use Rattle.key_routes.specs.Routes.{comes_to, route_of}
use Rattle.stream_run.specs.Output.{body_of, item_in, read_of}
use Rattle.shard_run.specs.Texts.{route_text}
use Rattle.shard_run.specs.declared.router.LineRoute.{LineRoute}
use Rattle.shard_run.specs.declared.router.LineRoute.TheVariants.{Nowhere, Skipped, Sent}

-- how items lie in lines, the columns of their keys and the predicate of a collect, and how many
-- shards there are
pub record Routing : Type 0 where
  pub layout : Layout
  pub chosen : List ℕ
  pub sync : Predicate
  pub shards : ℕ

-- those of a collect on such lines
abbrev pub routing_for : Layout → Collection → ℕ → Routing
routing_for layout given shards =
    record { layout = layout; chosen = given.chosen; sync = given.sync; shards = shards }

-- what a line is read to: an item, or why it is left out, or nothing
abbrev pub Read : Type 0
Read = Option (Result (List Field) Skip)

-- what the header is read to, if there is one
abbrev pub header_reads : Bool → List Shown → List Read
header_reads true (line ∷ shown) = None ∷ []
header_reads _ _ = []

-- what each line of an input is read to
abbrev pub reads_of : Layout → List Shown → List Read
reads_of layout shown = header_reads layout.has_header shown
    ++ map (read_of layout.columns) (body_of layout.has_header shown)

-- where a line goes that was read to this
abbrev pub line_route : Routing → Read → LineRoute
line_route routing None = Nowhere
line_route routing (Some (Ok item)) =
    Sent (route_of routing.chosen routing.sync routing.shards item)
line_route routing (Some (Err why)) = Skipped why

-- what is written of the lines of an input: for each where it goes
abbrev pub routes : Routing → List Shown → List ℕ
routes routing shown =
    flat_map (λ read. route_text (line_route routing read)) (reads_of routing.layout shown)

-- the text is what is written of these lines
abbrev pub AreRoutes : Routing → List Shown → List ℕ → Type 0
AreRoutes routing shown text = text ≡ routes routing shown

-- whether a line that goes so comes to this shard
abbrev pub line_comes_to : ℕ → LineRoute → Bool
line_comes_to shard Nowhere = false
line_comes_to shard (Skipped skip) = false
line_comes_to shard (Sent route) = comes_to shard route

-- the items of those lines of an input that come to a shard
abbrev pub items_at : Routing → ℕ → List Shown → Word
items_at routing shard shown = flat_map item_in
    (filter (λ read. line_comes_to shard (line_route routing read)) (reads_of routing.layout shown))
