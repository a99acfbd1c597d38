use Rattle.std.proofs.Common.{ℕ, ◌+◌}
use Rattle.std.specs.Prelude.{sum}
use Rattle.ambiguity_check.specs.Levels.{IsLevel}
use Rattle.ambiguity_check.specs.Marked.{room}
use Rattle.ambiguity_check.proofs.reachability.reach.Given as goal

abbrev pub invariant-levels : goal.invariant-levels
invariant-levels g l = (items : ℕ)
    × IsLevel (g.G.Graph.begins l.graph) (g.G.Graph.continues l.graph)
    (g.G.Graph.meet l.graph) items l.search

-- the nodes that are left to be seen, and the latest
abbrev pub decreases-levels : goal.decreases-levels
decreases-levels g l = room l.search.seen + sum l.search.latest
