use Rattle.std.proofs.Common.{◌+◌}
use Rattle.rate_equal.proofs.sieve.+sift.Given as goal

-- each call has one position fewer to ask
abbrev pub decreases-sift : goal.decreases-sift
decreases-sift l = l.asked.0 + l.asked.1
