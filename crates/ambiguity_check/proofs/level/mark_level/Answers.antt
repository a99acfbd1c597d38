use Rattle.ambiguity_check.proofs.Phases.{phases_all}
use Rattle.ambiguity_check.proofs.level.mark_level.Goals as goal

pub returns : goal.returns
returns g c = phases_all (g.G.Graph.continues c.args.graph.now) (g.G.Graph.meet c.args.graph.now)
    c.args.level.now _ _ _ _ _ _ _ _
    c.mark_phase.ensures c.mark_phase-2.ensures c.mark_phase-3.ensures
