use Rattle.std.proofs.Common.{◌≡◌, length}
use Rattle.rate_equal.specs.Free.{AreAllFree}
use Rattle.rate_equal.proofs.free.free_of_first.Given as goal

abbrev pub invariant-positions : goal.invariant-positions
invariant-positions l = record {
  length : length l.free.items ≡ l.position;
  free : AreAllFree l.letters l.free.items;
}
