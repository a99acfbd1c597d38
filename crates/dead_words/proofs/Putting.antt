-- A mask that is put among others.
use Rattle.std.proofs.Common.{◌≡◌, ℕ, Bool, true, false, List, [], ◌∷◌, ◌++◌, refl, sym, ap, subst}
use Rattle.std.proofs.Common.{inl, if◌then◌else◌}
use Rattle.std.specs.List.{Contains, IsDistinct, list_any}
use Rattle.std.proofs.lemmas.List.Elements.{Contains-append_left, Contains-push}
use Rattle.std.proofs.lemmas.List.Elements.{Contains-push_cases}
use Rattle.indexmap.specs.IndexSet.{insert_key}
use Rattle.indexmap.proofs.CallerLemmas.{Contains-list_any}
use Rattle.dead_words.specs.Known.{IsPut}

module _ (eq : ℕ → ℕ → Bool) (known : List ℕ) (mask : ℕ) where
  by_test : ((x y : ℕ) → eq x y ≡ true → x ≡ y) → (test : Bool)
      → list_any (eq mask) known ≡ test → IsPut known (insert_key eq known mask) mask
  by_test same true is =
      let here : insert_key eq known mask ≡ known =
      ap (λ (test : Bool). if test then known else known ++ mask ∷ []) is in
      subst (λ (l : List ℕ). IsPut known l mask) (sym here) record {
        kept = λ other c. c;
        only = λ other c. inl c;
        has = Contains-list_any eq same known mask is;
      }
  by_test same false is =
      let here : insert_key eq known mask ≡ known ++ mask ∷ [] =
      ap (λ (test : Bool). if test then known else known ++ mask ∷ []) is in
      subst (λ (l : List ℕ). IsPut known l mask) (sym here) record {
        kept = λ other c. Contains-append_left known (mask ∷ []) other c;
        only = λ other c. Contains-push_cases known mask other c;
        has = Contains-push known mask;
      }

  module _ (known' : List ℕ) (distinct : IsDistinct eq known')
      (same : (x y : ℕ) → eq x y ≡ true → x ≡ y) where
    -- it is there then, and nothing else is new
    pub is_put : known' ≡ insert_key eq known mask → IsPut known known' mask
    is_put put_in = subst (λ (l : List ℕ). IsPut known l mask) (sym put_in)
        (by_test same (list_any (eq mask) known) refl)

    -- what passed for it was there
    pub was_there : list_any (eq mask) known ≡ true → Contains known mask
    was_there is = Contains-list_any eq same known mask is
