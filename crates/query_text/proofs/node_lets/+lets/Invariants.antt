use Rattle.std.proofs.Common.{◌+◌, ◌*◌}
use Rattle.query_model.specs.declared.query.Query.{size-Query}
use Rattle.query_text.proofs.node_lets.+lets.Given as goal

-- how deep the query is; at one query the place is asked above the text
abbrev pub decreases-own_text : goal.decreases-own_text
decreases-own_text l = 2 * size-Query l.query.now

abbrev pub decreases-place_of : goal.decreases-place_of
decreases-place_of l = 2 * size-Query l.query.now + 1
