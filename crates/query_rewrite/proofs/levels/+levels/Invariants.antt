use Rattle.std.proofs.Common.{◌+◌}
use Rattle.expressions.specs.Expressions.{plain_of, plain_parts}
use Rattle.query_rewrite.proofs.Measures.{weight_of, weight_of_all}
use Rattle.query_rewrite.proofs.levels.+levels.Given as goal

abbrev pub decreases-levels_of : goal.decreases-levels_of
decreases-levels_of l = weight_of (plain_of l.value.now)

abbrev pub decreases-levels_over : goal.decreases-levels_over
decreases-levels_over l =
    weight_of (plain_of l.first.now) + weight_of (plain_of l.second.now) + 1

abbrev pub decreases-most_levels : goal.decreases-most_levels
decreases-most_levels l = weight_of_all (plain_parts l.parts.now)
