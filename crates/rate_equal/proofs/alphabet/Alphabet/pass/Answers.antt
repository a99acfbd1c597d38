use Rattle.std.proofs.Common.{ℕ, ◌%◌, subst, sym, slice_index}
use Rattle.rate_expr.specs.Sets.{Has}
use Rattle.rate_equal.proofs.Lettering.{passing_next}
use Rattle.rate_equal.proofs.alphabet.Alphabet.pass.Goals as goal

pub parts-preserved : goal.parts-preserved
parts-preserved c = passing_next _ _ _ _ _ _ _ _ c.parts.invariant c.keep.ensures
    (λ place has here. subst (λ (m : ℕ). Has m (place % 128)) (sym c.block.ensures)
    (subst (λ (b : ℕ). Has (slice_index c.in_ok-others.others b) (place % 128)) here has.bit))
    c.in_ok-others.ensures
