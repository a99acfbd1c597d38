use Rattle.std.proofs.Common.{rules}
use Rattle.rate_equal.proofs.Freedom.{free_pushed}
use Rattle.rate_equal.proofs.free.free_of_first.Goals as goal

pub positions-preserved : goal.positions-preserved
positions-preserved c = record {
  length = search rules;
  free = rw (c.in_ok-push.ensures.items)
      (free_pushed _ _ _ c.positions.invariant.free c.free_or_none.ensures);
}
