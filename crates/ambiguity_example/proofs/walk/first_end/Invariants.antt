use Rattle.std.proofs.Common.{ℕ, ◌+◌, ◌<◌}
use Rattle.std.specs.Prelude.{sum}
use Rattle.ambiguity_check.specs.Lengths.{EndsAfter}
use Rattle.ambiguity_check.specs.Levels.{IsLevel}
use Rattle.ambiguity_check.specs.Marked.{room}
use Rattle.ambiguity_check.specs.Walks.{IsIn}
use Rattle.ambiguity_example.specs.Known.{AreKnown}
use Rattle.ambiguity_example.proofs.walk.first_end.Given as goal

-- the levels so far are known, and none of their nodes is an end
abbrev pub invariant-levels : goal.invariant-levels
invariant-levels g l = record {
  level : IsLevel (g.G.Graph.begins l.graph) (g.G.Graph.continues l.graph) (g.G.Graph.meet l.graph)
      l.items l.search.value;
  known : AreKnown (g.G.Graph.begins l.graph) (g.G.Graph.continues l.graph) (g.G.Graph.meet l.graph)
      l.items l.reached.items;
  none : (fewer : ℕ) → fewer < l.items → EndsAfter (g.G.Graph.begins l.graph)
      (g.G.Graph.continues l.graph) (g.G.Graph.meet l.graph) (IsIn l.ends) fewer → ⊥;
}

-- the nodes that are left to be seen, and the latest
abbrev pub decreases-levels : goal.decreases-levels
decreases-levels g l = room l.search.value.seen + sum l.search.value.latest
