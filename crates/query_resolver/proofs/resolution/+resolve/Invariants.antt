use Rattle.std.proofs.Common.{◌+◌, ◌*◌}
use Rattle.query_lets.specs.Places.{nodes_within}
use Rattle.query_resolver.proofs.resolution.+resolve.Given as goal

abbrev pub decreases-resolve : goal.decreases-resolve
decreases-resolve l = 5 * nodes_within l.scope + 3

abbrev pub decreases-resolve_over : goal.decreases-resolve_over
decreases-resolve_over l = 5 * nodes_within l.scope + 2

abbrev pub decreases-resolve_root : goal.decreases-resolve_root
decreases-resolve_root l = 5 * nodes_within l.scope + 1

abbrev pub decreases-resolve_pair : goal.decreases-resolve_pair
decreases-resolve_pair l = 5 * nodes_within l.scope

abbrev pub decreases-resolve_iter : goal.decreases-resolve_iter
decreases-resolve_iter l = 5 * nodes_within l.scope

abbrev pub decreases-resolve_apply : goal.decreases-resolve_apply
decreases-resolve_apply l = 5 * nodes_within l.scope

abbrev pub decreases-resolve_collection : goal.decreases-resolve_collection
decreases-resolve_collection l = 5 * nodes_within l.scope

abbrev pub decreases-resolve_fed : goal.decreases-resolve_fed
decreases-resolve_fed l = 5 * nodes_within l.scope

abbrev pub decreases-resolve_on_values : goal.decreases-resolve_on_values
decreases-resolve_on_values l = 5 * nodes_within l.scope + 4
