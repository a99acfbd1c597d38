use Rattle.std.proofs.Common.{◌≡◌, ◌%◌, ℕ, List, inl, inr, subst, sym}
use Rattle.rate_expr.proofs.MaskMembers.{has_first, has_or, has_second}
use Rattle.rate_equal.specs.Holding.{HasRow}
use Rattle.rate_equal.proofs.holders.Holders.block.Goals as goal

pub returns-clause-first : goal.returns-clause-first
returns-clause-first c = λ position place has here among row.
    let same : c.args.self.now.first.items ≡ c.deref.result.now = cc in
    has_first _ _ _ (c.gather-first.ensures.has position place has here
    (subst (λ (rows : List ℕ). HasRow rows position place) same row))

pub returns-clause-second : goal.returns-clause-second
returns-clause-second c = λ position place has here among row.
    let same : c.args.self.now.second.items ≡ c.deref-2.result.now = cc in
    has_second _ _ _ (c.gather-second.ensures.has position place has here
    (subst (λ (rows : List ℕ). HasRow rows position place) same row))

pub returns-clause-only : goal.returns-clause-only
returns-clause-only c = λ place here has.
    let same : c.args.self.now.first.items ≡ c.deref.result.now = cc in
    let same' : c.args.self.now.second.items ≡ c.deref-2.result.now = cc in
    elim (has_or c.gather-first.result c.gather-second.result (place % 128) has) [
      | inl one ↦
          let (position, on, row) = c.gather-first.ensures.only place here one in
          inl (position, on, subst (λ (rows : List ℕ). HasRow rows position place) (sym same) row)
      | inr other ↦
          let (position, on, row) = c.gather-second.ensures.only place here other in
          inr (position, on, subst (λ (rows : List ℕ). HasRow rows position place) (sym same') row)
    ]
