-- The positions after those of a mask, gathered from the lowest on.
use Rattle.std.proofs.Common.{◌≡◌, ◌⊎◌, inl, inr, ℕ, ◌^◌, ◌<◌, ◌≤◌, ◌↔◌, Some, length, sym, subst}
use Rattle.std.proofs.Common.{bit_or, arith}
use Rattle.std.specs.Prelude.{slice_get}
use Rattle.std.proofs.lemmas.Nat.{or_lt, pow_pos}
use Rattle.std.proofs.lemmas.Bool.Decides.{eqb_tells}
use Rattle.rate_expr.specs.Paths.{Follows}
use Rattle.rate_expr.specs.Sets.{Sets, AreSets, Has, IsLowest}
use Rattle.symbolic_nfa.specs.States.{AreWaysOn, Continues}
use Rattle.rate_expr.specs.declared.state.State.TheVariants.{At}
use Rattle.symbolic_nfa.proofs.Lists.{all-at, one-at}
use Rattle.rate_expr.proofs.MaskMembers.{has_first, has_or, has_second, has_zero}
use Rattle.rate_expr.proofs.MaskSets.{has-below}

-- what comes after the positions of the mask was found, but for those that are left
pub record AreGathered (sets : Sets) (mask rest found : ℕ) : Type 0 where
  pub left : rest ≤ mask
  pub kept : (from : ℕ) → Has rest from → Has mask from
  pub sound : (next : ℕ) → Has found next → Continues sets (At mask) next
  pub whole : (from next : ℕ) → Has mask from → Follows sets from next
      → Has rest from ⊎ Has found next
  pub within : found < 2 ^ length sets.preds

-- nothing yet
pub gathered-begin : (sets : Sets) (mask : ℕ) → AreGathered sets mask mask 0
gathered-begin sets mask = record {
  left = omega arith;
  kept = λ from has. has;
  sound = λ next has. absurd (has_zero next has);
  whole = λ from next has follows. inl has;
  within = pow_pos (length sets.preds);
}

-- the lowest that is left is one of the mask's
pub lowest-below :
    (sets : Sets) (mask rest found low : ℕ) → AreGathered sets mask rest found → IsLowest rest low
    → mask < 2 ^ length sets.preds → low < length sets.preds
lowest-below sets mask rest found low so_far is within =
    has-below mask (length sets.preds) low within (so_far.kept low is.has)

-- there is one lowest
one_lowest : (mask low other : ℕ) → IsLowest mask low → IsLowest mask other → other ≡ low
one_lowest mask low other is also =
    let below = is.least other also.has in let above = also.least low is.has in omega arith

-- those after the lowest that is left
pub gathered-step :
    (sets : Sets) (mask rest found low after follow : ℕ) → AreSets sets
    → AreGathered sets mask rest found → IsLowest rest low
    → ((position : ℕ) → Has after position ↔ (Has rest position × (IsLowest rest position → ⊥)))
    → after < rest → slice_get sets.follow low ≡ Some follow
    → AreGathered sets mask after (bit_or found follow)
gathered-step sets mask rest found low after follow are so_far is exact less read = record {
  left = let left = so_far.left in omega arith;
  kept = λ from has. so_far.kept from ((exact from).0 has).0;
  sound = λ next has. elim (has_or found follow next has) [
    | inl before ↦ so_far.sound next before
    | inr now ↦ (low, so_far.kept low is.has, (follow, read, now))
  ];
  whole = λ from next has follows. elim (so_far.whole from next has follows) [
    | inr before ↦ inr (has_first found follow next before)
    | inl waits ↦ elim (eqb_tells from low) [
      | inl here ↦ inr (has_second found follow next (follow_at from next (sym here.1) follows))
      | inr other ↦
          inl ((exact from).1 (waits, λ lowest. other.1 (one_lowest rest low from is lowest)))
    ]
  ];
  within = or_lt (length sets.preds) found follow so_far.within
      (all-at (λ (m : ℕ). m < 2 ^ length sets.preds) sets.follow low follow are.follow read);
}
  where
    follow_at : (from next : ℕ) → low ≡ from → Follows sets from next → Has follow next
    follow_at from next here (other, found_there, has) =
        subst (λ (m : ℕ). Has m next)
        (sym (one-at sets.follow low from follow other read here found_there)) has

-- all of them
pub gathered-end :
    (sets : Sets) (mask found : ℕ) → AreGathered sets mask 0 found
    → AreWaysOn sets (At mask) found
gathered-end sets mask found all = record {
  within = all.within;
  exact = λ next. (
    λ has. all.sound next has,
    λ (from, has, follows). elim (all.whole from next has follows) [
      | inl waits ↦ absurd (has_zero from waits)
      | inr has_next ↦ has_next
    ],
  );
}
