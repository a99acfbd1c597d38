use Rattle.ambiguity_check.proofs.Searches.{level_over}
use Rattle.ambiguity_check.proofs.laws.all_are_seen_after_an_empty_level.Goals as goal

pub returns : goal.returns
returns g c = λ items search level none.
    level_over (g.G.Graph.begins c.args.graph.now) (g.G.Graph.continues c.args.graph.now)
    (g.G.Graph.meet c.args.graph.now) items search level none
