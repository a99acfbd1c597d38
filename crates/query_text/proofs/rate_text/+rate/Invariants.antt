use Rattle.std.proofs.Common.{◌+◌, ◌*◌, max}
use Rattle.rate_expr.specs.declared.rate.Rate.{size-Rate}
use Rattle.query_text.proofs.rate_text.+rate.Given as goal

-- how deep the rate is
abbrev pub decreases-write_rate : goal.decreases-write_rate
decreases-write_rate l = 2 * size-Rate l.rate.now

abbrev pub decreases-write_joined : goal.decreases-write_joined
decreases-write_joined l = 2 * max (size-Rate l.left.now) (size-Rate l.right.now) + 1
