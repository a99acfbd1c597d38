use Rattle.ambiguity_check.proofs.Searches.{level_begins}
use Rattle.ambiguity_check.proofs.search.Search.begin.Goals as goal

pub returns : goal.returns
returns g c = rw c.seen-2.view_is (level_begins (g.G.Graph.begins c.args.graph.now)
    (g.G.Graph.continues c.args.graph.now) (g.G.Graph.meet c.args.graph.now) _ _ _ _ _
    c.in_ok-seen.ensures c.in_ok-latest.ensures c.starts.ensures c.mark_moves.ensures)
