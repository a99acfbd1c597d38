-- So far there is a part at each place.
use Rattle.std.proofs.Common.{◌≤◌, length}
use Rattle.value_ops.proofs.rec.Rec.len.Given as goal

abbrev pub invariant-places : goal.invariant-places
invariant-places l = l.place ≤ length l.self
