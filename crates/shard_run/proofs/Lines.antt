-- What lines are read to, and what is written of them, with one line more.
use Rattle.std.proofs.Common.{◌≡◌, ◌++◌, Bool, true, false, cond, List, [], ◌∷◌, None}
use Rattle.std.proofs.Common.{ℕ, Result, Ok, Err, IfOk, Bor, refl, sym, ap, ◌∙◌}
use Rattle.std.proofs.lemmas.List.{map-append}
use Rattle.std.specs.List.{flat_map}
use Rattle.io_edge.specs.Lines.{Shown}
use Rattle.item_schema.specs.Layout.{Layout}
use Rattle.item_schema.specs.declared.column.Column.{Column}
use Rattle.stream_run.specs.Output.{is_header, read_of}
use Rattle.stream_run.specs.Replying.{Replies}
use Rattle.stream_run.proofs.LineItems.{flat_map-push, read_after}
use Rattle.shard_run.specs.Routers.{IsRouterAfter, SaysRoutes, StandsAfter, read_by, routing_of}
use Rattle.shard_run.specs.Routes.{Read, Routing, line_route, reads_of, routes}
use Rattle.shard_run.specs.Texts.{route_text}
use Rattle.shard_run.specs.declared.router.LineRoute.{LineRoute}
use Rattle.shard_run.specs.declared.router.Router.{Router}

-- by whether there is a header
reads_with : (columns : List Column) (has_header : Bool) (shown : List Shown) (line : Shown)
    → reads_of (record { has_header = has_header; columns = columns }) (shown ++ line ∷ [])
    ≡ reads_of (record { has_header = has_header; columns = columns }) shown
    ++ read_after (record { has_header = has_header; columns = columns }) shown line ∷ []
reads_with columns true [] line = refl
reads_with columns true (first ∷ shown) line =
    ap (λ (l : List Read). None ∷ l) (map-append (read_of columns) shown (line ∷ []))
reads_with columns false [] line = refl
reads_with columns false (first ∷ shown) line =
    map-append (read_of columns) (first ∷ shown) (line ∷ [])

-- what is read is that before, and what the line is read to
pub reads-push : (layout : Layout) (shown : List Shown) (line : Shown)
    → reads_of layout (shown ++ line ∷ [])
    ≡ reads_of layout shown ++ read_after layout shown line ∷ []
reads-push layout shown line = reads_with layout.columns layout.has_header shown line

-- what is written is that before, and where the line goes
pub routes-push : (routing : Routing) (shown : List Shown) (line : Shown)
    → routes routing (shown ++ line ∷ [])
    ≡ routes routing shown ++ route_text (line_route routing (read_after routing.layout shown line))
routes-push routing shown line =
    ap (flat_map (λ read. route_text (line_route routing read)))
    (reads-push routing.layout shown line)
    ∙ flat_map-push (λ read. route_text (line_route routing read)) (reads_of routing.layout shown)
    (read_after routing.layout shown line)

-- a router goes from one line to the next
pub record Moves (line : Shown) (route : LineRoute) (old new : Router) : Type 0 where
  pub route_is : route ≡ line_route (routing_of old) (read_by old line)
  pub new_is : new ≡ record old { awaits_header = false }

-- what it reads is what the line is read to
reads_by : (routing : Routing) (shown : List Shown) (line : Shown) (router : Router)
    → IsRouterAfter routing shown router
    → read_by router line ≡ read_after routing.layout shown line
reads_by routing shown line router after =
    ap (λ (h : Bool). cond h None (read_of router.schema.now.columns line)) after.header
    ∙ ap (λ (r : Routing). cond (is_header routing.layout shown) None
    (read_of r.layout.columns line)) after.routing_is

-- after some lines no line is the header
later : (layout : Layout) (shown : List Shown) (line : Shown)
    → false ≡ is_header layout (shown ++ line ∷ [])
later layout [] line = refl
later layout (first ∷ shown) line = refl

module _ (routing : Routing) (shown : List Shown) (line : Shown) (route : LineRoute)
    (old new : Router) (after : IsRouterAfter routing shown old) (moves : Moves line route old new)
  where
    -- the text of the line goes after those before
    pub routes_more : routes routing shown ++ route_text route ≡ routes routing (shown ++ line ∷ [])
    routes_more =
        ap (λ (r : LineRoute). routes routing shown ++ route_text r)
        (moves.route_is ∙ ap (λ (r : Routing). line_route r (read_by old line)) after.routing_is
        ∙ ap (line_route routing) (reads_by routing shown line old after))
        ∙ sym (routes-push routing shown line)

    -- and the router has taken it
    pub router_after : IsRouterAfter routing (shown ++ line ∷ []) new
    router_after = record {
      routing_is = ap routing_of moves.new_is ∙ after.routing_is;
      header = ap (λ (r : Router). r.awaits_header) moves.new_is ∙ later routing.layout shown line;
    }

-- a router that goes from one line to the next, and says where this one goes, replies to it
pub replies : {E : Type 0} (line : Shown) (route : LineRoute) (result : Result (Bor (List ℕ)) E)
    (old new : Router) → Moves line route old new → IfOk result (λ text. text.now ≡ route_text route)
    → IfOk result (λ text. Replies StandsAfter SaysRoutes line text.now old new)
replies line route (Ok text) old new moves is = record {
  stands = λ first before after routing begins.
      router_after routing before line route old new (after routing begins) moves;
  says = λ first before so_far after said routing begins.
      ap (λ (t : List ℕ). t ++ text.now) (said routing begins)
      ∙ ap (λ (r : List ℕ). routes routing before ++ r) is
      ∙ routes_more routing before line route old new (after routing begins) moves;
}
replies line route (Err error) old new moves is = tt
