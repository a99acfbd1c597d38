-- What two tests that agree or differ say of their facts.
use Rattle.std.proofs.Common.{◌≡◌, ℕ, ◌+◌, ◌<◌, ◌⊎◌, ◌↔◌, Bool, true, false, not, IsTrue, List}
use Rattle.std.proofs.Common.{length, get_or, refl, inl, inr, subst, sym, ap, ◌∙◌, arith}
use Rattle.std.proofs.Math.Bool.{beq}
use Rattle.std.proofs.lemmas.Bool.{cases_lt}
use Rattle.std.proofs.lemmas.List.{get_or_default}

module _ {P Q : Type 0} where
  -- two tests that agree
  pub both_or_neither : (a b : Bool) → IsTrue a ↔ P → IsTrue b ↔ Q → not (beq a b) ≡ false → P ↔ Q
  both_or_neither true true p q same = (λ x. q.0 refl, λ y. p.0 refl)
  both_or_neither true false p q same = absurd (cc)
  both_or_neither false true p q same = absurd (cc)
  both_or_neither false false p q same =
      (λ x. let no' = p.1 x in absurd (cc), λ y. let no' = q.1 y in absurd (cc))

  -- two tests that differ
  pub one_alone : (a b : Bool) → IsTrue a ↔ P → IsTrue b ↔ Q → not (beq a b) ≡ true
      → (P × (Q → ⊥)) ⊎ (Q × (P → ⊥))
  one_alone true true p q differ = absurd (cc)
  one_alone true false p q differ = inl (p.0 refl, λ y. let no' = q.1 y in cc)
  one_alone false true p q differ = inr (q.0 refl, λ x. let no' = p.1 x in cc)
  one_alone false false p q differ = absurd (cc)

-- what holds of each below an index, and there, holds of one more
pub one_further : {A : Type 0} (P : A → Type 0) (xs : List A) (i : ℕ) (e : A)
    → ((k : ℕ) (d : A) → k < i → P (get_or xs k d)) → i < length xs → P (get_or xs i e)
    → (k : ℕ) (d : A) → k < i + 1 → P (get_or xs k d)
one_further P xs i e below within here k d lt = elim (cases_lt k i) [
  | inl less ↦ below k d less
  | inr most ↦ let same : k ≡ i = omega arith in
      subst P (get_or_default xs i e d within ∙ ap (λ (j : ℕ). get_or xs j d) (sym same)) here
]
