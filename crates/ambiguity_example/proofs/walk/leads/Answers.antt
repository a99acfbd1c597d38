use Rattle.ambiguity_example.proofs.Leading.{stays_there, turns_there, leads_nowhere}
use Rattle.ambiguity_example.proofs.walk.leads.Goals as goal

pub returns-then-is_of : goal.returns-then-is_of
returns-then-is_of g c =
    stays_there (g.G.Graph.continues c.args.graph.now) c.args.before c.args.node
    c.moves-moves.result _ c.only.ensures (c.moves-moves.ensures c.args.node) c.is_of.result
    c.is_of.ensures c.if-is_of.true

pub returns-in-Some : goal.returns-in-Some
returns-in-Some g c = turns_there (g.G.Graph.continues c.args.graph.now) c.args.before c.args.node
    c.moves-moves.result _ c.only.ensures (c.moves-moves.ensures c.args.node) c.is_of.result _ _
    c.is_of.ensures c.if-is_of.false c.in-Some.is c.is_of-in-Some.ensures

pub returns-in-None : goal.returns-in-None
returns-in-None g c = leads_nowhere (g.G.Graph.continues c.args.graph.now) c.args.before c.args.node
    c.moves-moves.result _ c.only.ensures (c.moves-moves.ensures c.args.node) c.is_of.result
    c.is_of.ensures c.if-is_of.false c.in-None.is
