use Rattle.std.proofs.Common.{◌≡◌, [], drop, map}
use Rattle.query_templates.specs.Plain.{plain_standings}
use Rattle.query_templates.specs.Standings.{first_torn, if_all}
use Rattle.query_templates.proofs.torn.torn_in_all.Given as goal

-- those from the index on decide
abbrev pub invariant-others : goal.invariant-others
invariant-others l =
    if_all l.refusal (map (first_torn []) (plain_standings l.others))
    ≡ if_all l.refusal (map (first_torn []) (plain_standings (drop l.other-index l.others)))
