use Rattle.std.proofs.Common.{subst, sym}
use Rattle.ambiguity_check.specs.Levels.{IsLevel}
use Rattle.ambiguity_check.proofs.Searches.{level_advances}
use Rattle.ambiguity_check.proofs.search.Search.advance.Goals as goal

pub returns-clause-level : goal.returns-clause-level
returns-clause-level g c = λ items level.
    let begins = g.G.Graph.begins c.args.graph.now in
    let continues = g.G.Graph.continues c.args.graph.now in
    let meet = g.G.Graph.meet c.args.graph.now in
    let before = subst (λ s. IsLevel begins continues meet items s) (sym c.self.view_is) level in
    rw c.swap.ensures.x_after (level_advances begins continues meet items
    (record { seen = c.self.inside.seen; latest = c.self.inside.latest }) before _ _ _
    c.clear.ensures c.mark_level.ensures)
