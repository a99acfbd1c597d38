use Rattle.std.proofs.Common.{◌+◌, ◌*◌, max}
use Rattle.query_model.specs.declared.query.Query.{size-Query}
use Rattle.query_resolver.proofs.composed_cells.+apart.Given as goal

abbrev pub decreases-first_apart : goal.decreases-first_apart
decreases-first_apart l = 3 * size-Query l.query.now

abbrev pub decreases-first_of_two : goal.decreases-first_of_two
decreases-first_of_two l = 3 * max (size-Query l.first.now) (size-Query l.second.now) + 1

abbrev pub decreases-first_composed : goal.decreases-first_composed
decreases-first_composed l = 3 * max (size-Query l.first.now) (size-Query l.second.now) + 2

abbrev pub decreases-first_after : goal.decreases-first_after
decreases-first_after l = 3 * size-Query l.second.now + 1
