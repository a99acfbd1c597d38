use Rattle.std.proofs.Common.{Vec, Global, sym, ap, ◌∙◌}
use Rattle.std.specs.Option.{option_map}
use Rattle.query_templates.specs.declared.standing.Standing.{Standing}
use Rattle.query_templates.specs.Plain.{plain_standings, plain_template}
use Rattle.query_templates.specs.Standings.{stand_at}
use Rattle.query_templates.proofs.Stood.{found_more, found_none}
use Rattle.query_templates.proofs.standing.standings.Goals as goal
use Rattle.query_templates.proofs.standing.standings.Goals.{in-Some+in_ok-push, in_default}

pub places-preserved : goal.places-preserved
places-preserved c =
    let at_place = stand_at c.args.text.now (plain_template c.args.template.now) in
    let places = c.all_places-places.result.now in
    elim c.match-branch-2.branch [
      | in-Some+in_ok-push w ↦
          ap (λ (v : Vec (Vec Standing Global) Global). plain_standings v.items) w.found-is
          ∙ ap plain_standings w.in_ok-push.ensures.items
          ∙ found_more at_place places c.places.at-index _ c.places-test.true
          c.places.found.items c.places.invariant w.in-Some.known
          (ap (option_map (λ (v : Vec Standing Global). v.items)) (sym w.in-Some.is)
          ∙ c.in_ok-known.ensures)
      | in_default w ↦
          ap (λ (v : Vec (Vec Standing Global) Global). plain_standings v.items) w.found-is
          ∙ found_none at_place places c.places.at-index _ c.places-test.true
          c.places.found.items c.places.invariant
          (ap (option_map (λ (v : Vec Standing Global). v.items)) (sym w.in_default.is)
          ∙ c.in_ok-known.ensures)
    ]
