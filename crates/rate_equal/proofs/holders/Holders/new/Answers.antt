use Rattle.std.proofs.Common.{◌≡◌, replicate, rules}
use Rattle.rate_equal.proofs.Holding.{held_begun}
use Rattle.rate_equal.proofs.holders.Holders.new.Goals as goal

pub returns-clause-none : goal.returns-clause-none
returns-clause-none c = λ pairs.
    let zeros : c.in_ok-first.first.items ≡ replicate 4096 0 = search rules in
    let zeros' : c.in_ok-second.second.items ≡ replicate 4096 0 = search rules in
    rw (zeros, zeros') (held_begun 4096 4096 pairs)
