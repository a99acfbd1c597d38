use Rattle.std.proofs.Common.{rules, inl, inr, ⊎_elim}
use Rattle.rate_expr.specs.Sets.{Has}
use Rattle.rate_expr.proofs.MaskMembers.{has_or, has_first, has_second}
use Rattle.ambiguity_check.proofs.readings.onward.Goals as goal

pub returns-then-has : goal.returns-then-has
returns-then-has c = λ next.
    let ends : Has c.args.positions.now.last c.args.position = search rules in (
      (λ has. ⊎_elim (λ within. inl ((c.after-within.ensures next).0 within))
          (λ begins. inr (ends, rw c.first.ensures at begins))
          (has_or c.after-within.result c.first.result next has)),
      (λ goes. ⊎_elim (λ follows. has_first c.after-within.result c.first.result next
          ((c.after-within.ensures next).1 follows))
          (λ again. has_second c.after-within.result c.first.result next
          (rw c.first.ensures again.1))
          goes),
    )
