use Rattle.std.proofs.Common.{ℕ, inl, inr, subst}
use Rattle.rate_expr.specs.Sets.{Has}
use Rattle.rate_expr.proofs.MaskMembers.{has_only_one, has_or}
use Rattle.rate_equal.specs.Holding.{HaveSameRow}
use Rattle.rate_equal.proofs.twins.twins_of.Goals as goal
use Rattle.rate_equal.proofs.twins.twins_of.Goals.{then-is_same_row, else-is_same_row}

pub twins-preserved : goal.twins-preserved
twins-preserved c = elim c.if-is_same_row.branch [
  | then-is_same_row w ↦ rw w.found-is
      (λ twin has. elim (has_or c.twins.found w.only-found.result twin has) [
        | inl was ↦ c.twins.invariant twin was
        | inr one ↦
            let here = has_only_one c.twins.twin twin
            (subst (λ (m : ℕ). Has m twin) w.only-found.ensures one) in
            subst (λ (t : ℕ). HaveSameRow c.args.first.now c.args.second.now t c.args.position) here
            (c.is_same_row.ensures w.if-is_same_row.true)
      ])
  | else-is_same_row w ↦ rw w.found-is c.twins.invariant
]
