use Rattle.std.proofs.Common.{length}
use Rattle.query_lets.specs.Places.{Leads}
use Rattle.query_lets.proofs.scope.Scope.root.Given as goal

-- the scope so far is led to
abbrev pub invariant-names : goal.invariant-names
invariant-names l = Leads l.fn.self l.scope

abbrev pub decreases-names : goal.decreases-names
decreases-names l = length l.scope.lets.now
