use Rattle.std.proofs.Common.{rules}
use Rattle.map_collect.proofs.Choices.{kept_by}
use Rattle.map_collect.proofs.states.keep_extending.Goals as goal

pub returns : goal.returns
returns g c =
    kept_by c.args.nfa.now _ _ (λ track answer after called. search rules) _ _
    c.retain.ensures.filtered
