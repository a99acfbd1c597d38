use Rattle.std.proofs.Common.{refl}
use Rattle.query_lets.proofs.scope.Scope.main.Goals as goal

pub returns-clause-placed : goal.returns-clause-placed
returns-clause-placed c = rw c.deref.ensures.value c.requires

pub returns-clause-same : goal.returns-clause-same
returns-clause-same c = rw (c.deref.ensures.value, c.deref-2.ensures) refl
