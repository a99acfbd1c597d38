use Rattle.std.proofs.Common.{◌≡◌, map, take, ◌++◌}
use Rattle.rate_expr.specs.Joined.{moved}
use Rattle.rate_expr.proofs.links.append.Given as goal

-- the masks so far are moved after those that were there
abbrev pub invariant-loop-mask : goal.invariant-loop-mask
invariant-loop-mask l =
    l.follow.items ≡ l.initial.follow.items ++ map (moved l.count) (take l.mask-index l.others)
