-- What comes after the positions of a mask, gathered from the lowest on.
use Rattle.std.proofs.Common.{◌≡◌, ◌⊎◌, ◌↔◌, inl, inr, ⊎_elim, ℕ, subst, bit_or, arith}
use Rattle.std.proofs.lemmas.Bool.{cases_eq}
use Rattle.rate_expr.specs.Sets.{Has, IsLowest}
use Rattle.rate_expr.proofs.MaskMembers.{has_first, has_or, has_second, has_zero}

-- there is one lowest
pub one_lowest : (mask low other : ℕ) → IsLowest mask low → IsLowest mask other → other ≡ low
one_lowest mask low other is also =
    let below = is.least other also.has in let above = also.least low is.has in omega arith

module _ (leads : ℕ → ℕ → Type 0) (mask : ℕ) where
  -- what comes after the positions of the mask was found, but for those that are left
  pub record AreGathered (rest found : ℕ) : Type 0 where
    pub kept : (from : ℕ) → Has rest from → Has mask from
    pub sound : (next : ℕ) → Has found next → (from : ℕ) × Has mask from × leads from next
    pub whole : (from next : ℕ) → Has mask from → leads from next → Has rest from ⊎ Has found next

  -- nothing yet
  pub gathered_none : AreGathered mask 0
  gathered_none = record {
    kept = λ from has. has;
    sound = λ next has. absurd (has_zero next has);
    whole = λ from next has leads'. inl has;
  }

  -- what comes after the lowest that is left
  pub gathered_next : (rest found low after more : ℕ) → AreGathered rest found → IsLowest rest low
      → ((place : ℕ) → Has after place ↔ (Has rest place × (IsLowest rest place → ⊥)))
      → ((next : ℕ) → Has more next ↔ leads low next) → AreGathered after (bit_or found more)
  gathered_next rest found low after more so_far lowest exact leads_on = record {
    kept = λ from has. so_far.kept from ((exact from).0 has).0;
    sound = λ next has. ⊎_elim (λ was. so_far.sound next was)
        (λ new. (low, so_far.kept low lowest.has, (leads_on next).0 new))
        (has_or found more next has);
    whole = λ from next has leads'. ⊎_elim
        (λ waits. elim (cases_eq from low) [
          | inl here ↦ inr (has_second found more next
              ((leads_on next).1 (subst (λ (p : ℕ). leads p next) here leads')))
          | inr differ ↦ inl ((exact from).1
              (waits, λ also. differ (one_lowest rest low from lowest also)))
        ])
        (λ was. inr (has_first found more next was)) (so_far.whole from next has leads');
  }

  -- all of it
  pub gathered_all : (found : ℕ) → AreGathered 0 found
      → (next : ℕ) → Has found next ↔ ((from : ℕ) × Has mask from × leads from next)
  gathered_all found all next = (
    λ has. all.sound next has,
    λ some. ⊎_elim (λ waits. absurd (has_zero some.0 waits)) (λ has. has)
        (all.whole some.0 next some.1 some.2),
  )
