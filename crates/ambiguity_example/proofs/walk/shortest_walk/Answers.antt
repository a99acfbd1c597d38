use Rattle.std.proofs.Common.{ℕ, ◌<◌, ◌≡◌, sym, subst}
use Rattle.ambiguity_check.specs.Walks.{IsIn}
use Rattle.ambiguity_example.proofs.Levels.{walk_to_as}
use Rattle.ambiguity_example.proofs.walk.shortest_walk.Goals as goal

pub returns-in-Some : goal.returns-in-Some
returns-in-Some g c =
    let first = rw c.in-Some.is at c.in_ok-end.ensures in
    let walk = c.in_ok-walk_to-in-Some.ensures in record {
      walk = walk_to_as (g.G.Graph.begins c.args.graph.now) (g.G.Graph.continues c.args.graph.now)
          (g.G.Graph.meet c.args.graph.now) (λ node. node ≡ c.in-Some.end.node) (IsIn c.args.ends)
          (λ node same. subst (IsIn c.args.ends) (sym same) first.ended) _ walk.walk;
      few = walk.few;
      none = λ fewer less. first.none fewer (subst (λ (n : ℕ). fewer < n) walk.length less);
    }
