use Rattle.std.proofs.Common.{◌<◌, ◌^◌, arith, get_or, rules}
use Rattle.rate_expr.proofs.MaskSets.{has-below}
use Rattle.rate_equal.proofs.Freedom.{free_pushed}
use Rattle.rate_equal.proofs.free.free_of_second.Goals as goal

pub bounds-of_first-lowest : goal.bounds-of_first-lowest
bounds-of_first-lowest c =
    let fits : get_or c.args.twins.now c.positions.position 0 < 2 ^ 128 =
    search (rules, c.type_inv.twins) in
    let below = has-below _ 128 c.lowest.result fits c.lowest.ensures.has in
    omega (arith, below, c.requires.length)

pub positions-preserved-then-twins-position-ne0 : goal.positions-preserved-then-twins-position-ne0
positions-preserved-then-twins-position-ne0 c =
    let fits : get_or c.args.twins.now c.positions.position 0 < 2 ^ 128 =
    search (rules, c.type_inv.twins) in
    let below = has-below _ 128 c.lowest.result fits c.lowest.ensures.has in record {
      length = search rules;
      free = rw (c.in_ok-push.ensures.items) (free_pushed _ _ _ c.positions.invariant.free
          (c.requires.free c.lowest.result (0, 0) (omega (arith, below, c.requires.length))));
    }
