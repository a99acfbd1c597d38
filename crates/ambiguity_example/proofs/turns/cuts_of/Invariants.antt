use Rattle.ambiguity_example.proofs.Turned.{ContinuesFrom}
use Rattle.ambiguity_example.proofs.turns.cuts_of.Given as goal

-- the cuts so far and those from here on are those of the walk
abbrev pub invariant-nodes : goal.invariant-nodes
invariant-nodes l = ContinuesFrom l.positions l.side l.walk l.at l.cuts.items
