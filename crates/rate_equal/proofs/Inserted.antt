-- A list of different things with one more.
use Rattle.std.proofs.Common.{◌≡◌, ◌+◌, ◌≤◌, ◌⊎◌, ℕ, zero, suc, Bool, true, false, cond, List, []}
use Rattle.std.proofs.Common.{◌∷◌, ◌++◌, Some, length, refl, sym, ap, subst, ◌∙◌, inl, arith}
use Rattle.std.proofs.Common.{length-append, if◌then◌else◌}
use Rattle.std.specs.List.{Contains, IsDistinct, list_any, position, position_from, slice_get}
use Rattle.std.proofs.lemmas.Option.{none-some, same_Some}
use Rattle.std.proofs.lemmas.Iterator.Adapters.{position_from-zero}
use Rattle.std.proofs.lemmas.List.{append-nil}
use Rattle.std.proofs.lemmas.List.Elements.{Contains-push_cases}
use Rattle.indexmap.specs.IndexSet.{insert_key}
use Rattle.indexmap.proofs.CallerLemmas.{Contains-list_any}

module _ {K : Type 0} (eq : K → K → Bool) (ks : List K) (k : K) where
  -- what is put after the list
  pub put_after : (more : List K) × (insert_key eq ks k ≡ ks ++ more)
      × ((other : K) → Contains (insert_key eq ks k) other → Contains ks other ⊎ (k ≡ other))
      × (length (insert_key eq ks k) ≤ length ks + 1)
  put_after = by (list_any (eq k) ks) refl
    where
      by : (test : Bool) → list_any (eq k) ks ≡ test → (more : List K)
          × (insert_key eq ks k ≡ ks ++ more)
          × ((other : K) → Contains (insert_key eq ks k) other → Contains ks other ⊎ (k ≡ other))
          × (length (insert_key eq ks k) ≤ length ks + 1)
      by true is = let same : insert_key eq ks k ≡ ks =
          ap (λ test. if test then ks else ks ++ k ∷ []) is in (
            [],
            same ∙ sym (append-nil ks),
            λ other c. inl (subst (λ l. Contains l other) same c),
            omega (arith, ap length same),
          )
      by false is = let same : insert_key eq ks k ≡ ks ++ k ∷ [] =
          ap (λ test. if test then ks else ks ++ k ∷ []) is in (
            k ∷ [],
            same,
            λ other c. Contains-push_cases ks k other (subst (λ l. Contains l other) same c),
            omega (arith, ap length same, length-append ks (k ∷ [])),
          )

module _ {K : Type 0} (eq : K → K → Bool) (ks ks' : List K) (k : K) (distinct : IsDistinct eq ks')
    (put_in : ks' ≡ insert_key eq ks k) where
  -- what is there now was there, or is what was put there
  pub had_or_put : (other : K) → Contains ks' other → Contains ks other ⊎ (k ≡ other)
  had_or_put other c = (put_after eq ks k).2 other (subst (λ l. Contains l other) put_in c)

  -- what passed for one of the list was there
  pub had_before : ((x y : K) → eq x y ≡ true → x ≡ y) → list_any (eq k) ks ≡ true → Contains ks k
  had_before same is = Contains-list_any eq same ks k is

module _ {K : Type 0} (test : K → Bool) where
  there_first : (is : Bool) (x : K) (xs : List K) (from i : ℕ) → test x ≡ is
      → (position_from test (from + 1) xs ≡ Some i
      → (j : ℕ) × (k : K) × (i ≡ from + 1 + j) × (slice_get xs j ≡ Some k) × (test k ≡ true))
      → cond is (Some from) (position_from test (from + 1) xs) ≡ Some i
      → (j : ℕ) × (k : K) × (i ≡ from + j) × (slice_get (x ∷ xs) j ≡ Some k) × (test k ≡ true)
  there_first true x xs from i is after some =
      let first : from ≡ i = same_Some from i some in
      (zero, x, omega (arith, first), refl, is)
  there_first false x xs from i is after some =
      let (j, k, at, found, passes) = after some in
      (suc j, k, omega (arith, at), found, passes)

  there_from : (xs : List K) (from i : ℕ) → position_from test from xs ≡ Some i
      → (j : ℕ) × (k : K) × (i ≡ from + j) × (slice_get xs j ≡ Some k) × (test k ≡ true)
  there_from [] from i some = absurd (none-some i some)
  there_from (x ∷ xs) from i some =
      there_first (test x) x xs from i refl (there_from xs (from + 1) i) some

  -- at the place that a test finds stands what passes it
  pub stands_there : (xs : List K) (i : ℕ) → position test xs ≡ Some i
      → (k : K) × (slice_get xs i ≡ Some k) × (test k ≡ true)
  stands_there xs i some =
      let (j, k, at, found, passes) = there_from xs 0 i (sym (position_from-zero test xs) ∙ some) in
      (k, subst (λ (p : ℕ). slice_get xs p ≡ Some k) (omega (arith, at)) found, passes)
