-- Counts of the elements that pass a test, and where elements stand.
use Rattle.std.proofs.Common.{◌≡◌, ℕ, zero, suc, zero-le, ◌+◌, ◌≤◌, Bool, true, false, cond, ◌||◌}
use Rattle.std.proofs.Common.{ltb, List, [], ◌∷◌, length, refl, sym, ap, ◌∙◌, true≢false, arith}
use Rattle.std.specs.Prelude.{count_by}
use Rattle.std.specs.List.{list_any, AllByRecursion, AllWithin}
use Rattle.std.proofs.lemmas.Bool.Decides.{nat_tests}
use Rattle.std.proofs.lemmas.List.Sums.{sum_by-cons}

-- what a test counts that implies another one
weigh-le : (a b : Bool) → (a ≡ true → b ≡ true) → cond a 1 0 ≤ cond b 1 0
weigh-le false b h = zero-le
weigh-le true true h = omega arith
weigh-le true false h = absurd (true≢false (sym (h refl)))

same_weight : (a b : Bool) → ◌≡◌ {A = ℕ} (cond a 1 0) (cond b 1 0) → a ≡ b
same_weight true true e = refl
same_weight true false e = absurd (omega arith)
same_weight false true e = absurd (omega arith)
same_weight false false e = refl

more : (a b : Bool) (n : ℕ) → b ≡ ltb 0 n → (a || b) ≡ ltb 0 (cond a 1 0 + n)
more true b n e = grind (arith, nat_tests)
more false b n e = grind (arith, nat_tests)

module _ {A : Type 0} where
  pub count_by-cons : (p : A → Bool) (x : A) (xs : List A)
      → count_by p (x ∷ xs) ≡ cond (p x) 1 0 + count_by p xs
  count_by-cons p x xs = sum_by-cons (λ y. cond (p y) 1 0) x xs

  -- a test that implies another one counts no more
  pub count_by-le : (p q : A → Bool) → ((x : A) → p x ≡ true → q x ≡ true) → (xs : List A)
      → count_by p xs ≤ count_by q xs
  count_by-le p q less [] = zero-le
  count_by-le p q less (x ∷ xs) =
      omega (
        arith,
        count_by-cons p x xs,
        count_by-cons q x xs,
        weigh-le (p x) (q x) (less x),
        count_by-le p q less xs,
      )

  -- and where it counts as many, the two agree
  pub same_from_count : (p q : A → Bool) → ((x : A) → p x ≡ true → q x ≡ true) → (xs : List A)
      → count_by p xs ≡ count_by q xs → AllByRecursion (λ x. p x ≡ q x) xs
  same_from_count p q less [] e = tt
  same_from_count p q less (x ∷ xs) e =
      let c = count_by-cons p x xs in
      let d = count_by-cons q x xs in
      let w = weigh-le (p x) (q x) (less x) in
      let le = count_by-le p q less xs in
      (same_weight (p x) (q x) (omega arith), same_from_count p q less xs (omega arith))

  -- how many pass is where the first one fails, if none passes after it
  pub count_from_place : (p : A → Bool) (xs : List A) (i : ℕ) → i ≤ length xs
      → AllWithin (λ x. p x ≡ true) xs 0 i → AllWithin (λ x. p x ≡ false) xs i (length xs)
      → count_by p xs ≡ i
  count_from_place p [] i le below from = omega arith
  count_from_place p (x ∷ xs) zero le below from =
      let rest = count_from_place p xs 0 zero-le (λ k d a b. absurd (omega arith))
      (λ k d a b. from (suc k) d zero-le (omega arith)) in
      rw (count_by-cons p x xs, from 0 x (omega arith) (omega arith)) (omega (arith, rest))
  count_from_place p (x ∷ xs) (suc i) le below from =
      let rest = count_from_place p
      xs i (omega arith) (λ k d a b. below (suc k) d zero-le (omega arith))
      (λ k d a b. from (suc k) d (omega arith) (omega arith)) in
      rw (count_by-cons p x xs, below 0 x zero-le (omega arith)) (omega (arith, rest))

  pub count_all : (xs : List A) → count_by (λ x. true) xs ≡ length xs
  count_all [] = refl
  count_all (x ∷ xs) = let c = count_by-cons (λ y. true) x xs in omega (arith, count_all xs)

  -- whether some pass by how many do
  any_by_count : (p : A → Bool) (xs : List A) → list_any p xs ≡ ltb 0 (count_by p xs)
  any_by_count p [] = refl
  any_by_count p (x ∷ xs) =
      rw (count_by-cons p x xs) (more (p x) (list_any p xs) (count_by p xs) (any_by_count p xs))

  pub same_any : (p : A → Bool) (xs ys : List A) → count_by p xs ≡ count_by p ys
      → list_any p xs ≡ list_any p ys
  same_any p xs ys e = any_by_count p xs ∙ ap (ltb 0) e ∙ sym (any_by_count p ys)
