use Rattle.std.proofs.Common.{rules, tests}
use Rattle.std.proofs.lemmas.Iterator.{cases_from_any, YieldsList-from_slice}
use Rattle.map_collect.specs.Tracks.{IsLiveAt}
use Rattle.map_collect.proofs.Choices.{decided_live}
use Rattle.map_collect.proofs.states.is_any_live.Goals as goal

pub returns : goal.returns
returns g c =
    let live = IsLiveAt c.args.nfa.now c.args.start in
    decided_live c.args.nfa.now c.any.result c.args.tracks.now c.args.start
    (cases_from_any _ _ _ live (λ track. live track → ⊥) c.any.ensures.ran
    (YieldsList-from_slice c.args.tracks.now cc) (λ x q k. search (rules, tests))
    (λ x q k. search (rules, tests)))
