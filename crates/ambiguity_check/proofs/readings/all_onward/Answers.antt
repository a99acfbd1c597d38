use Rattle.std.proofs.Common.{inl, inr, ⊎_elim}
use Rattle.rate_expr.proofs.MaskMembers.{has_or, has_first, has_second}
use Rattle.ambiguity_check.proofs.readings.all_onward.Goals as goal

pub returns-then-overlap : goal.returns-then-overlap
returns-then-overlap c = λ next.
    let end = rw c.last.ensures at c.if-overlap.ensures in (
      (λ has. ⊎_elim (λ within. let some = (c.all_after-followers.ensures next).0 within in
          (some.0, some.1, inl some.2))
          (λ begins. (end.0, end.1, inr (end.2, rw c.first.ensures at begins)))
          (has_or c.all_after-followers.result c.first.result next has)),
      (λ goes. ⊎_elim (λ follows. has_first c.all_after-followers.result c.first.result next
          ((c.all_after-followers.ensures next).1 (goes.0, goes.1, follows)))
          (λ again. has_second c.all_after-followers.result c.first.result next
          (rw c.first.ensures again.1)) goes.2),
    )

pub returns-else-overlap : goal.returns-else-overlap
returns-else-overlap c = λ next.
    let none = rw c.last.ensures at c.if-overlap.ensures in (
      (λ has. let some = (c.all_after-followers.ensures next).0 has in
          (some.0, some.1, inl some.2)),
      (λ goes. ⊎_elim (λ follows. (c.all_after-followers.ensures next).1 (goes.0, goes.1, follows))
          (λ again. absurd (none goes.0 goes.1 again.0)) goes.2),
    )
