use Rattle.std.proofs.Common.{length}
use Rattle.explanation.proofs.key_names.+named_twice.Given as goal

abbrev pub decreases-named_twice : goal.decreases-named_twice
decreases-named_twice l = length l.names.now
