use Rattle.rate_expr.proofs.Placing.{ArePlaced}
use Rattle.rate_expr.proofs.shared_preds.SharedPreds.positions_of.Given as goal

abbrev pub invariant-positions : goal.invariant-positions
invariant-positions l = ArePlaced l.self.places l.place l.position l.found
