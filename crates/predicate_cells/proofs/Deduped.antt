-- A sort and then a `dedup` leave the members of a list in rising order.
use Rattle.std.proofs.Common.{◌≡◌, ℕ, ◌+◌, ◌<◌, length, map, Bor, nat_cmp, arith, Bool, true, false}
use Rattle.std.proofs.Common.{cond, ◌||◌, List, [], ◌∷◌, Ordering, Less, Equal, Greater, ℤ, int_cmp}
use Rattle.std.proofs.Common.{int_eq, is_eq, refl, sym, ap, ◌∙◌}
use Rattle.std.specs.Cmp.{IsTotalOrder}
use Rattle.std.specs.Cmp.Lexicographic.{slice_cmp}
use Rattle.std.specs.List.{dedup, dedup_from}
use Rattle.std.specs.Str.{bytes_eq}
use Rattle.std.specs.List.Sorted.{IsPermutation, IsSorted}
use Rattle.std.specs.Ordering.{eq_by_cmp}
use Rattle.std.proofs.lemmas.Cmp.{alike_right, int_cmp_total, nat_list_cmp_total}
use Rattle.std.proofs.lemmas.List.{get_or-map, length-map}
use Rattle.std.proofs.lemmas.Bool.Decides.{Decides-int_eq}
use Rattle.std.proofs.lemmas.List.Kept.{IsStrictlySortedBy-dedup}
use Rattle.std.proofs.lemmas.List.Sorted.{list_any-IsPermutation, IsPermutation-map}
use Rattle.predicate_cells.specs.Rising.{rising}
use Rattle.predicate_cells.proofs.RisingLists.{has, has_rising, one_rising, rises, or_twice}
use Rattle.predicate_cells.proofs.TextOrder.{bytes_eq_is, same_text}

module _ {A : Type 0} (cmp : A → A → Ordering) (o : IsTotalOrder cmp) where
  -- what is left has the same members
  has_dedup_from : (q k : A) (xs : List A)
      → has cmp q (dedup_from (eq_by_cmp cmp) k xs) ≡ (eq_by_cmp cmp q k || has cmp q xs)
  has_dedup_from q k [] = refl
  has_dedup_from q k (x ∷ xs) = by (cmp x k) refl (has_dedup_from q k xs) (has_dedup_from q x xs)
    where
      by : (r : Ordering) → cmp x k ≡ r
          → has cmp q (dedup_from (eq_by_cmp cmp) k xs) ≡ (eq_by_cmp cmp q k || has cmp q xs)
          → has cmp q (dedup_from (eq_by_cmp cmp) x xs) ≡ (eq_by_cmp cmp q x || has cmp q xs)
          → has cmp q
          (cond (is_eq r) (dedup_from (eq_by_cmp cmp) k xs) (k ∷ dedup_from (eq_by_cmp cmp) x xs))
          ≡ (eq_by_cmp cmp q k || (eq_by_cmp cmp q x || has cmp q xs))
      by Less e h g = ap (λ b. eq_by_cmp cmp q k || b) g
      by Equal e h g = rw (alike_right o x k q e) (h ∙ or_twice (eq_by_cmp cmp q k) (has cmp q xs))
      by Greater e h g = ap (λ b. eq_by_cmp cmp q k || b) g

  has_dedup : (q : A) (xs : List A) → has cmp q (dedup (eq_by_cmp cmp) xs) ≡ has cmp q xs
  has_dedup q [] = refl
  has_dedup q (x ∷ xs) = has_dedup_from q x xs

  pub dedup_is_rising : ((x y : A) → cmp x y ≡ Equal → x ≡ y) → (xs ys : List A)
      → IsPermutation xs ys → IsSorted cmp ys → dedup (eq_by_cmp cmp) ys ≡ rising cmp xs
  dedup_is_rising real xs ys moved sorted =
      one_rising cmp o real _ _ (IsStrictlySortedBy-dedup o (λ x y. refl) ys sorted)
      (rises cmp o xs)
      (λ q. has_dedup q ys
      ∙ sym (has_rising cmp o q xs ∙ list_any-IsPermutation (eq_by_cmp cmp q) xs ys moved))

-- the same of numbers
pub dedup_of_numbers : (xs ys : List ℤ) → IsPermutation xs ys → IsSorted int_cmp ys
    → dedup int_eq ys ≡ rising int_cmp xs
dedup_of_numbers xs ys moved sorted =
    dedup_is_rising int_cmp int_cmp_total (λ x y e. (Decides-int_eq x y).0 (ap is_eq e))
    xs ys moved sorted

module _ {A B : Type 0} (f : A → B) where
  map-dedup_from : (same : B → B → Bool) (k : A) (xs : List A)
      → map f (dedup_from (λ x y. same (f x) (f y)) k xs) ≡ dedup_from same (f k) (map f xs)
  map-dedup_from same k [] = refl
  map-dedup_from same k (x ∷ xs) =
      by (same (f x) (f k)) (map-dedup_from same k xs) (map-dedup_from same x xs)
    where
      by : (b : Bool)
          → map f (dedup_from (λ x y. same (f x) (f y)) k xs) ≡ dedup_from same (f k) (map f xs)
          → map f (dedup_from (λ x y. same (f x) (f y)) x xs) ≡ dedup_from same (f x) (map f xs)
          → map f (cond b (dedup_from (λ x y. same (f x) (f y)) k xs)
          (k ∷ dedup_from (λ x y. same (f x) (f y)) x xs))
          ≡ cond b (dedup_from same (f k) (map f xs)) (f k ∷ dedup_from same (f x) (map f xs))
      by true h g = h
      by false h g = ap (λ ys. f k ∷ ys) g

  map-dedup : (same : B → B → Bool) (xs : List A)
      → map f (dedup (λ x y. same (f x) (f y)) xs) ≡ dedup same (map f xs)
  map-dedup same [] = refl
  map-dedup same (x ∷ xs) = map-dedup_from same x xs

  -- what is sorted by a key has sorted keys
  sorted_keys : (cmp : B → B → Ordering) (xs : List A) → IsSorted (λ x y. cmp (f x) (f y)) xs
      → IsSorted cmp (map f xs)
  sorted_keys cmp [] sorted k d low lt = absurd (omega arith)
  sorted_keys cmp (x ∷ xs) sorted k d low lt =
      let below : k + 1 < length (x ∷ xs) = omega (arith, length-map (x ∷ xs) f) in
      let here : k < length (x ∷ xs) = omega arith in
      rw (get_or-map f (x ∷ xs) (k + 1) x d below, get_or-map f (x ∷ xs) k x d here)
      (sorted k x low below)

-- the same of texts
pub dedup_of_texts : (xs ys : List (Bor (List ℕ))) → IsPermutation xs ys
    → IsSorted (λ x y. slice_cmp nat_cmp x.now y.now) ys
    → map (λ t. t.now) (dedup (λ x y. bytes_eq x.now y.now) ys)
    ≡ rising (slice_cmp nat_cmp) (map (λ t. t.now) xs)
dedup_of_texts xs ys moved sorted =
    let now = λ (t : Bor (List ℕ)). t.now in
    map-dedup now bytes_eq ys
    ∙ rw bytes_eq_is
    (dedup_is_rising (slice_cmp nat_cmp) nat_list_cmp_total same_text (map now xs) (map now ys)
    (IsPermutation-map now xs ys moved) (sorted_keys now (slice_cmp nat_cmp) ys sorted))
