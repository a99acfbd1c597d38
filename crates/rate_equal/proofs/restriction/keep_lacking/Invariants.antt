use Rattle.rate_equal.proofs.Lacking.{IsKeeping}
use Rattle.rate_equal.proofs.restriction.keep_lacking.Given as goal

abbrev pub invariant-parts : goal.invariant-parts
invariant-parts l =
    IsKeeping l.lost l.holders.first.items l.holders.second.items l.near.targets l.initial.targets
    l.block l.targets
