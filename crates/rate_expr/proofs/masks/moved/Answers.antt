use Rattle.std.proofs.Common.{sym, arith}
use Rattle.rate_expr.proofs.Moved.{moved_out}
use Rattle.rate_expr.proofs.masks.moved.Goals as goal

pub returns-else-count-lt128 : goal.returns-else-count-lt128
returns-else-count-lt128 c =
    sym (moved_out c.args.count c.args.mask (let far = c.if-count-lt128.false in omega arith))
