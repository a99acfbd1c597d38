use Rattle.std.proofs.Common.{◌≡◌, ℕ, ◌+◌, ◌++◌, List, [], ◌∷◌, replicate, ap, ◌∙◌, append_assoc}
use Rattle.std.proofs.Common.{sym}
use Rattle.item_lines.proofs.Digits.{replicate-push}
use Rattle.item_lines.proofs.number_text.push_digits.Goals as goal

-- one zero more
zero_more : (old front new : List ℕ) (zeros : ℕ) → old ≡ front ++ replicate zeros 48
    → new ≡ old ++ 48 ∷ [] → new ≡ front ++ replicate (zeros + 1) 48
zero_more old front new zeros is_old is_new =
    is_new ∙ ap (λ (l : List ℕ). l ++ 48 ∷ []) is_old
    ∙ append_assoc front (replicate zeros 48) (48 ∷ [])
    ∙ ap (λ (l : List ℕ). front ++ l) (sym (replicate-push zeros 48))

pub zeros-preserved : goal.zeros-preserved
zeros-preserved c = zero_more _ _ _ _ c.zeros.invariant c.in_ok-push.ensures.items
