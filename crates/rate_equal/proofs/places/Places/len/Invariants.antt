use Rattle.std.proofs.Common.{◌*◌, ◌≤◌}
use Rattle.rate_equal.proofs.places.Places.len.Given as goal

abbrev pub invariant-parts : goal.invariant-parts
invariant-parts l = l.count ≤ l.block * 128
