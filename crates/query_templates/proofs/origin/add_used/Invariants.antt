use Rattle.std.proofs.Common.{◌≡◌, ◌++◌, take}
use Rattle.query_templates.specs.Origins.{came_of}
use Rattle.query_templates.proofs.origin.add_used.Given as goal

-- the origins of the nodes so far
abbrev pub invariant-places : goal.invariant-places
invariant-places l =
    l.origins.items ≡ l.initial.origins.items ++ came_of l.used (take l.place-index l.place-items)
