use Rattle.std.proofs.Common.{◌≡◌, ◌∷◌, [], length, length-append, min, take, rules, sym, ap, ◌∙◌}
use Rattle.std.proofs.Common.{arith}
use Rattle.std.specs.List.{flat_map, zip}
use Rattle.std.specs.Prelude.{string_bytes}
use Rattle.std.proofs.lemmas.List.{take_all}
use Rattle.std.proofs.lemmas.Slice.Zip.{length-zip, zip_end, zip_turn}
use Rattle.expand_run.proofs.Lines.{line_of, lines_more}
use Rattle.expand_run.proofs.origin_lines.node_lines.Goals as goal

pub nodes-preserved : goal.nodes-preserved
nodes-preserved c =
    let places = c.args.places.now in
    let origins = c.args.origins.now in
    let turn = zip_turn places origins c.nodes.yielded
    c.into_iter-place-iterator.result c.nodes.place-iterator c.next.new.self c.next.result
    (search rules) (search rules) c.nodes.yielded_by (c.in-Some.place, c.in-Some.origin)
    c.in-Some.is c.next.ensures.steps in
    lines_more places origins (length c.nodes.yielded) c.in-Some.place.now c.in-Some.origin.now
    turn.0 turn.1 (turn.2 _) (turn.3 _) _ _ c.nodes.invariant c.in_ok-push_node.ensures
    ∙ ap (λ n. flat_map line_of (take n (zip places origins)))
    (sym (length-append c.nodes.yielded ((c.in-Some.place, c.in-Some.origin) ∷ [])))

pub returns : goal.returns
returns c =
    let places = c.args.places.now in
    let origins = c.args.origins.now in
    let turns : length c.nodes.yielded ≡ min (length places) (length origins) =
    zip_end places origins c.nodes.yielded c.into_iter-place-iterator.result
    c.nodes.place-iterator c.next.new.self c.next.result (search rules) (search rules)
    c.nodes.yielded_by c.in-None.is c.next.ensures.steps in
    let all : string_bytes c.nodes.lines ≡ flat_map line_of (zip places origins) =
    c.nodes.invariant ∙ ap (flat_map line_of) (take_all (length c.nodes.yielded)
    (zip places origins) (omega (arith, turns, length-zip places origins))) in
    rw (c.from_vec.ensures, c.into_bytes.ensures.value) all
