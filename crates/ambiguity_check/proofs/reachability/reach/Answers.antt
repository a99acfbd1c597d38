use Rattle.std.proofs.Common.{◌+◌}
use Rattle.ambiguity_check.proofs.Searches.{level_over}
use Rattle.ambiguity_check.proofs.reachability.reach.Goals as goal

pub levels-init : goal.levels-init
levels-init g c = (1, c.in_ok-search.ensures)

pub levels-preserved : goal.levels-preserved
levels-preserved g c = (c.levels.invariant.0 + 1, c.advance.ensures.level _ c.levels.invariant.1)

pub returns : goal.returns
returns g c = rw c.into_seen.ensures (level_over (g.G.Graph.begins c.args.graph.now)
    (g.G.Graph.continues c.args.graph.now) (g.G.Graph.meet c.args.graph.now) _ _
    c.levels.invariant.1 c.levels-test.ensures)
