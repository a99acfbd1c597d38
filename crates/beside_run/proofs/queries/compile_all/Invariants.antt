use Rattle.std.proofs.Common.{[]}
use Rattle.beside_lines.proofs.InTurn.{InTurnTo}
use Rattle.beside_run.specs.Compiling.{Adds}
use Rattle.beside_run.proofs.queries.compile_all.Given as goal

-- the sources below the index are compiled, and the others are as they were
abbrev pub invariant-queries : goal.invariant-queries
invariant-queries g l =
    let q = g.Q.Source in
    InTurnTo (Adds q.left q.ends q.faults) l.query-index l.fn.queries l.queries [] l.all.items
