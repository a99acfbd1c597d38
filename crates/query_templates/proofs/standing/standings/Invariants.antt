use Rattle.std.proofs.Common.{◌≡◌, take}
use Rattle.std.specs.List.{filter_map}
use Rattle.query_templates.specs.Plain.{plain_standings, plain_template}
use Rattle.query_templates.specs.Standings.{stand_at}
use Rattle.query_templates.proofs.standing.standings.Given as goal

-- the standings at the kinds of places so far
abbrev pub invariant-places : goal.invariant-places
invariant-places l =
    plain_standings l.found.items
    ≡ filter_map (stand_at l.text (plain_template l.template)) (take l.at-index l.places)
