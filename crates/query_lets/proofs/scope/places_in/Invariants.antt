use Rattle.std.proofs.Common.{map, take, drop}
use Rattle.query_syntax.specs.Plain.{plain_let}
use Rattle.query_lets.proofs.Building.{AreBuilt}
use Rattle.query_lets.proofs.scope.places_in.Given as goal

-- the places of the lets so far
abbrev pub invariant-lets : goal.invariant-lets
invariant-lets l =
    AreBuilt l.places (map plain_let (take l.place l.lets)) (map plain_let (drop l.place l.lets))
