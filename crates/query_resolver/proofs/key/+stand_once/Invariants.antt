use Rattle.std.proofs.Common.{length}
use Rattle.query_resolver.proofs.key.+stand_once.Given as goal

abbrev pub decreases-stand_once : goal.decreases-stand_once
decreases-stand_once l = length l.columns.now
