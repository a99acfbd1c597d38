use Rattle.expressions.specs.Expressions.{plain_of}
use Rattle.slow_eval.proofs.Joining.{IsBegun}
use Rattle.slow_eval.proofs.places.join.Given as goal

abbrev pub invariant-places : goal.invariant-places
invariant-places l = IsBegun (plain_of l.expression) l.left l.rights l.from l.place l.fn.row l.row
