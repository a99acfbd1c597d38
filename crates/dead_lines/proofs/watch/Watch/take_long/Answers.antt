use Rattle.std.proofs.Common.{refl}
use Rattle.dead_lines.proofs.Watched.{takes_long}
use Rattle.dead_lines.proofs.watch.Watch.take_long.Goals as goal

pub returns-clause-takes : goal.returns-clause-takes
returns-clause-takes c = takes_long c.args.self.now _ refl refl c.saturating_add-self.ensures
