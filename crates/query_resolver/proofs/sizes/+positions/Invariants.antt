use Rattle.std.proofs.Common.{◌+◌, ◌*◌, max}
use Rattle.query_model.specs.declared.query.Query.{size-Query}
use Rattle.query_resolver.proofs.sizes.+positions.Given as goal

abbrev pub decreases-positions_of : goal.decreases-positions_of
decreases-positions_of l = 3 * size-Query l.query.now

abbrev pub decreases-positions_of_two : goal.decreases-positions_of_two
decreases-positions_of_two l = 3 * max (size-Query l.first.now) (size-Query l.second.now) + 1

abbrev pub decreases-positions_of_both : goal.decreases-positions_of_both
decreases-positions_of_both l = 3 * max (size-Query l.first.now) (size-Query l.second.now) + 2

abbrev pub decreases-positions_of_first : goal.decreases-positions_of_first
decreases-positions_of_first l = 3 * max (size-Query l.first.now) (size-Query l.second.now) + 2

abbrev pub decreases-positions_of_rate : goal.decreases-positions_of_rate
decreases-positions_of_rate l = 3 * size-Query l.operand.now + 1
