-- Masks that are put among others.
use Rattle.std.proofs.Common.{◌≡◌, ℕ, Bool, true, false, List, [], ◌∷◌, ◌++◌, refl, sym, ap, subst}
use Rattle.std.proofs.Common.{inl, if◌then◌else◌}
use Rattle.std.specs.List.{Contains, IsDistinct, list_any}
use Rattle.std.proofs.lemmas.List.Elements.{Contains-append_left, Contains-push}
use Rattle.std.proofs.lemmas.List.Elements.{Contains-push_cases}
use Rattle.indexmap.specs.IndexSet.{insert_key}
use Rattle.indexmap.proofs.CallerLemmas.{Contains-list_any}
use Rattle.separating_word.specs.Known.{IsPut}

module _ (eq : ℕ × ℕ → ℕ × ℕ → Bool) (known : List (ℕ × ℕ)) (masks : ℕ × ℕ) where
  by_test : ((x y : ℕ × ℕ) → eq x y ≡ true → x ≡ y) → (test : Bool)
      → list_any (eq masks) known ≡ test → IsPut known (insert_key eq known masks) masks
  by_test same true is =
      let here : insert_key eq known masks ≡ known =
      ap (λ (test : Bool). if test then known else known ++ masks ∷ []) is in
      subst (λ (l : List (ℕ × ℕ)). IsPut known l masks) (sym here) record {
        kept = λ other c. c;
        only = λ other c. inl c;
        has = Contains-list_any eq same known masks is;
      }
  by_test same false is =
      let here : insert_key eq known masks ≡ known ++ masks ∷ [] =
      ap (λ (test : Bool). if test then known else known ++ masks ∷ []) is in
      subst (λ (l : List (ℕ × ℕ)). IsPut known l masks) (sym here) record {
        kept = λ other c. Contains-append_left known (masks ∷ []) other c;
        only = λ other c. Contains-push_cases known masks other c;
        has = Contains-push known masks;
      }

  module _ (known' : List (ℕ × ℕ)) (distinct : IsDistinct eq known')
      (same : (x y : ℕ × ℕ) → eq x y ≡ true → x ≡ y) where
    -- they are there then, and nothing else is new
    pub is_put : known' ≡ insert_key eq known masks → IsPut known known' masks
    is_put put_in = subst (λ (l : List (ℕ × ℕ)). IsPut known l masks) (sym put_in)
        (by_test same (list_any (eq masks) known) refl)

    -- what passed for one of them was there
    pub was_there : list_any (eq masks) known ≡ true → Contains known masks
    was_there is = Contains-list_any eq same known masks is
