use Rattle.std.proofs.Common.{arith}
use Rattle.rate_equal.proofs.Patterns.{rest_first, rest_second}
use Rattle.rate_equal.proofs.pattern.first_and_rest.Goals as goal

pub returns-then-positions-ne0-clause-some : goal.returns-then-positions-ne0-clause-some
returns-then-positions-ne0-clause-some c =
    rest_first c.args.positions c.lowest.result c.without_lowest.result
    (omega arith) c.lowest.ensures c.without_lowest.ensures.exact c.without_lowest.ensures.smaller

pub returns-then-positions-ne0-2-clause-some : goal.returns-then-positions-ne0-2-clause-some
returns-then-positions-ne0-2-clause-some c =
    rest_second c.args.positions c.lowest-then-positions-ne0-2.result
    c.without_lowest-then-positions-ne0-2.result (omega arith)
    c.lowest-then-positions-ne0-2.ensures c.without_lowest-then-positions-ne0-2.ensures.exact
    c.without_lowest-then-positions-ne0-2.ensures.smaller
