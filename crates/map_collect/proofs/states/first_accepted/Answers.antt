use Rattle.std.proofs.Common.{rules, tests}
use Rattle.std.proofs.lemmas.Iterator.{IsFirst-from_position, YieldsList-from_slice}
use Rattle.map_collect.proofs.Choices.{found_accepted, no_accepted, Accepted, Refused}
use Rattle.map_collect.proofs.states.first_accepted.Goals as goal

pub returns : goal.returns
returns g c =
    let sets = c.args.nfa.now.sets in
    let tracks = c.args.tracks.now in
    let searched = IsFirst-from_position _ _ _ (Accepted sets) (Refused sets) c.position.ensures.ran
    (YieldsList-from_slice tracks cc) (λ x q k. search (rules, tests))
    (λ x q k. search (rules, tests)) in
    record {
      there = found_accepted sets c.position.result tracks searched;
      none = no_accepted sets c.position.result tracks searched;
    }
