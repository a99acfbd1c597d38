use Rattle.std.proofs.Common.{◌<◌, ◌^◌, length, sym, subst}
use Rattle.rate_expr.specs.Sets.{Sets}
use Rattle.rate_expr.proofs.JoinedMade.{linked_made}
use Rattle.rate_expr.proofs.positions.Positions.with_links.Goals as goal

pub invariant_of-result : goal.invariant_of-result
invariant_of-result c =
    let below = subst (λ (s : Sets). c.args.to < 2 ^ length s.preds)
    (sym c.self.view_is) c.requires in (
      c.self.invariant.0,
      linked_made _ _ _ _ _ _ _ c.self.invariant.1 below
          c.deref_mut.ensures.value c.deref_mut.ensures.len c.link.ensures,
    )
