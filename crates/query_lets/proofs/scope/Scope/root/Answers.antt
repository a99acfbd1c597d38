use Rattle.query_lets.proofs.Leading.{places_kept}
use Rattle.query_lets.proofs.scope.Scope.root.Goals as goal

pub after_name-requires : goal.after_name-requires
after_name-requires c = places_kept c.args.self c.names.scope c.names.invariant c.requires

pub returns-clause-placed : goal.returns-clause-placed
returns-clause-placed c = places_kept c.args.self c.names.scope c.names.invariant c.requires
