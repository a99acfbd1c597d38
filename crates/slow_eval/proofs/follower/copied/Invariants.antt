use Rattle.std.proofs.Common.{◌≡◌, take}
use Rattle.slow_eval.proofs.follower.copied.Given as goal

abbrev pub invariant-items : goal.invariant-items
invariant-items l = l.copy.items ≡ take l.item-index l.items
