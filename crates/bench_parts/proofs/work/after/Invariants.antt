use Rattle.rate_expr.specs.After.{IsStateOf}
use Rattle.bench_parts.proofs.work.after.Given as goal

abbrev pub invariant-items : goal.invariant-items
invariant-items l = IsStateOf l.nfa.sets l.state
