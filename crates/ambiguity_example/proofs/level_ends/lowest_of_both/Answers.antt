use Rattle.rate_expr.proofs.MaskSets.{has-and, and-none}
use Rattle.ambiguity_example.proofs.level_ends.lowest_of_both.Goals as goal

pub returns-then-both-eq0 : goal.returns-then-both-eq0
returns-then-both-eq0 c = λ place one other.
    and-none c.args.first c.args.second c.if-both-eq0.true (place, one, other)

pub returns : goal.returns
returns c = has-and c.args.first c.args.second c.lowest.result c.lowest.ensures.has
