use Rattle.std.proofs.Common.{◌≡◌, take, reverse}
use Rattle.ambiguity_example.proofs.WalkBack.{IsBack}
use Rattle.ambiguity_example.proofs.walk.walk_to.Given as goal

-- the walk leads on from the first node that was found, and what leads to that is among
-- those in front
abbrev pub invariant-back : goal.invariant-back
invariant-back g l = IsBack (g.G.Graph.begins l.graph) (g.G.Graph.continues l.graph)
    (g.G.Graph.meet l.graph) (λ node. node ≡ l.fn.end) l.items (take l.at l.reached) l.first
    (reverse l.walk.items)
