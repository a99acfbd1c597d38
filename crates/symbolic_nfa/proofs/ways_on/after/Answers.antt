use Rattle.symbolic_nfa.proofs.Gathering.{gathered-step, lowest-below}
use Rattle.symbolic_nfa.proofs.ways_on.after.Goals as goal

pub follow-found-requires : goal.follow-found-requires
follow-found-requires c =
    lowest-below _ _ _ _ _ c.positions.invariant c.lowest.ensures c.requires.state

pub positions-preserved : goal.positions-preserved
positions-preserved c =
    gathered-step _ _ _ _ _ _ _ c.requires.sets c.positions.invariant c.lowest.ensures
    c.without_lowest-rest.ensures.exact c.without_lowest-rest.ensures.smaller c.follow-found.ensures
