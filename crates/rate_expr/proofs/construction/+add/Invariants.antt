use Rattle.std.proofs.Common.{◌+◌, ◌*◌, max}
use Rattle.rate_expr.specs.declared.rate.Rate.{size-Rate}
use Rattle.rate_expr.proofs.construction.+add.Given as goal

-- how deep the rate is, and that of two parts below that of the whole
abbrev pub decreases-add : goal.decreases-add
decreases-add l = 2 * size-Rate l.rate.now

abbrev pub decreases-add_sequence : goal.decreases-add_sequence
decreases-add_sequence l = 2 * max (size-Rate l.first.now) (size-Rate l.second.now) + 1
