use Rattle.rate_expr.proofs.JoinedMade.{beside_made}
use Rattle.rate_expr.proofs.positions.Positions.beside.Goals as goal

pub invariant_of-result : goal.invariant_of-result
invariant_of-result c = (
  c.in_ok-append-2.ensures.shared,
  beside_made _ _ _ _ _ _ _ _ c.self.view_is c.other.view_is c.self.invariant.1 c.other.invariant.1
      c.requires c.count-count.ensures.count c.deref.ensures.value c.in_ok-append.ensures
      c.in_ok-append-2.ensures.listed,
)
