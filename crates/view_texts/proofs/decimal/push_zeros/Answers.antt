use Rattle.std.proofs.Common.{◌≡◌, ℕ, zero, suc, ◌+◌, ◌++◌, List, [], ◌∷◌, replicate, refl, ap, sym}
use Rattle.std.proofs.Common.{◌∙◌, add-one, append_assoc}
use Rattle.view_texts.proofs.decimal.push_zeros.Goals as goal

-- one zero more after the others
zeros_more : (count : ℕ) → replicate {A = ℕ} (count + 1) 48 ≡ replicate count 48 ++ 48 ∷ []
zeros_more count = rw add-one (onward count)
  where
    onward : (count : ℕ) → replicate {A = ℕ} (suc count) 48 ≡ replicate count 48 ++ 48 ∷ []
    onward zero = refl
    onward (suc count) = ap (λ (l : List ℕ). 48 ∷ l) (onward count)

-- a zero behind a front and zeros
zero_behind : (old front new : List ℕ) (zeros : ℕ) → old ≡ front ++ replicate zeros 48
    → new ≡ old ++ 48 ∷ [] → new ≡ front ++ replicate (zeros + 1) 48
zero_behind old front new zeros is_old is_new =
    is_new ∙ ap (λ (l : List ℕ). l ++ 48 ∷ []) is_old
    ∙ append_assoc front (replicate zeros 48) (48 ∷ [])
    ∙ ap (λ (l : List ℕ). front ++ l) (sym (zeros_more zeros))

pub zeros-preserved : goal.zeros-preserved
zeros-preserved c = zero_behind _ _ _ _ c.zeros.invariant c.in_ok-push.ensures.items
