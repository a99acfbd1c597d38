use Rattle.slow_eval.proofs.Stepping.{IsStepped}
use Rattle.slow_eval.proofs.rates.fronts_by.Given as goal

abbrev pub invariant-items : goal.invariant-items
invariant-items l = IsStepped l.positions l.word l.item-index l.ways l.fronts.items
