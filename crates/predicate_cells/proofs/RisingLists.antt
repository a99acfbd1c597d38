-- The members of a list in rising order: they rise, are the list's members, and are the
-- only such list.
use Rattle.std.proofs.Common.{◌≡◌, ℕ, ◌+◌, Bool, true, false, cond, ◌||◌, List, [], ◌∷◌, length}
use Rattle.std.proofs.Common.{Ordering, Less, Equal, Greater, is_eq, refl, sym, ap, ap₂, ◌∙◌}
use Rattle.std.proofs.Common.{true≢false, arith}
use Rattle.std.specs.BTreeSet.{insert_key}
use Rattle.std.specs.Cmp.{IsTotalOrder}
use Rattle.std.specs.List.{list_any, sum_by, AllByRecursion}
use Rattle.std.specs.List.Sorted.{IsStrictlySortedBy}
use Rattle.std.specs.Ordering.{eq_by_cmp, match_ordering, ordering_reverse}
use Rattle.std.proofs.lemmas.Cmp.{alike_right, tied_itself}
use Rattle.std.proofs.lemmas.List.Elements.{All-from_recursion, recursion_from_All}
use Rattle.std.proofs.lemmas.List.Sums.{sum_by-cons}
use Rattle.std.proofs.lemmas.Map.Views.{All-insert_key}
use Rattle.predicate_cells.specs.Classes.{members}
use Rattle.predicate_cells.specs.Rising.{rising}
use Rattle.predicate_cells.proofs.Counts.{count_all}

-- whether an element is a member of a list
abbrev pub has : {A : Type 0} → (A → A → Ordering) → A → List A → Bool
has cmp x xs = list_any (eq_by_cmp cmp x) xs

pub or_twice : (a b : Bool) → (a || b) ≡ (a || (a || b))
or_twice true b = refl
or_twice false b = refl

or_moves : (a b c : Bool) → (a || (b || c)) ≡ (b || (a || c))
or_moves true true c = refl
or_moves true false c = refl
or_moves false true c = refl
or_moves false false c = refl

module _ {A : Type 0} (cmp : A → A → Ordering) (o : IsTotalOrder cmp) where
  -- one more member is a member, and no other comes
  has_insert : (q k : A) (ks : List A)
      → has cmp q (insert_key cmp ks k) ≡ (eq_by_cmp cmp q k || has cmp q ks)
  has_insert q k [] = refl
  has_insert q k (x ∷ xs) = by (cmp k x) refl (has_insert q k xs)
    where
      by : (r : Ordering) → cmp k x ≡ r
          → has cmp q (insert_key cmp xs k) ≡ (eq_by_cmp cmp q k || has cmp q xs)
          → has cmp q (match_ordering r (k ∷ x ∷ xs) (x ∷ xs) (x ∷ insert_key cmp xs k))
          ≡ (eq_by_cmp cmp q k || (eq_by_cmp cmp q x || has cmp q xs))
      by Less e h = refl
      by Equal e h = rw (alike_right o k x q e) (or_twice (eq_by_cmp cmp q x) (has cmp q xs))
      by Greater e h = ap (λ b. eq_by_cmp cmp q x || b) h
          ∙ or_moves (eq_by_cmp cmp q x) (eq_by_cmp cmp q k) (has cmp q xs)

  -- the members are those of the list
  pub has_rising : (q : A) (xs : List A) → has cmp q (rising cmp xs) ≡ has cmp q xs
  unfolding rising
  has_rising q [] = refl
  has_rising q (x ∷ xs) =
      has_insert q x (rising cmp xs) ∙ ap (λ b. eq_by_cmp cmp q x || b) (has_rising q xs)

  flipped : (x y : A) → cmp x y ≡ Greater → cmp y x ≡ Less
  flipped x y e = o.antisymm y x ∙ ap ordering_reverse e

  above : (k x : A) (xs : List A) → cmp k x ≡ Less → AllByRecursion (λ y. cmp x y ≡ Less) xs
      → AllByRecursion (λ y. cmp k y ≡ Less) xs
  above k x [] e s = tt
  above k x (y ∷ ys) e s = (o.trans k x y e s.0, above k x ys e s.1)

  -- a list that rises does so with one more member
  rises_insert : (k : A) (ks : List A) → IsStrictlySortedBy cmp ks
      → IsStrictlySortedBy cmp (insert_key cmp ks k)
  unfolding IsStrictlySortedBy
  rises_insert k [] s = (tt, tt)
  rises_insert k (x ∷ xs) s = by (cmp k x) refl (rises_insert k xs s.1)
    where
      by : (r : Ordering) → cmp k x ≡ r → IsStrictlySortedBy cmp (insert_key cmp xs k)
          → IsStrictlySortedBy cmp
          (match_ordering r (k ∷ x ∷ xs) (x ∷ xs) (x ∷ insert_key cmp xs k))
      by Less e h = ((e, above k x xs e s.0), s)
      by Equal e h = s
      by Greater e h =
          let P = λ (y : A). cmp x y ≡ Less in (
            recursion_from_All P _
                (All-insert_key cmp k P xs (All-from_recursion P _ s.0) (flipped k x e)),
            h,
          )

  pub rises_none : IsStrictlySortedBy cmp []
  unfolding IsStrictlySortedBy
  rises_none = tt

  pub rises : (xs : List A) → IsStrictlySortedBy cmp (rising cmp xs)
  unfolding rising IsStrictlySortedBy
  rises [] = tt
  rises (x ∷ xs) = rises_insert x (rising cmp xs) (rises xs)

  -- what is below all members is none of them
  absent : (q : A) (xs : List A) → AllByRecursion (λ y. cmp q y ≡ Less) xs → has cmp q xs ≡ false
  absent q [] s = refl
  absent q (x ∷ xs) s = rw s.0 (absent q xs s.1)

  -- one more member adds what it weighs, if it was none
  sum_insert : (f : A → ℕ) (k : A) (ks : List A) → IsStrictlySortedBy cmp ks
      → sum_by f (insert_key cmp ks k) ≡ cond (has cmp k ks) (sum_by f ks) (f k + sum_by f ks)
  unfolding IsStrictlySortedBy
  sum_insert f k [] s = sum_by-cons f k []
  sum_insert f k (x ∷ xs) s = by (cmp k x) refl (sum_insert f k xs s.1)
    where
      by : (r : Ordering) → cmp k x ≡ r
          → sum_by f (insert_key cmp xs k) ≡ cond (has cmp k xs) (sum_by f xs) (f k + sum_by f xs)
          → sum_by f (match_ordering r (k ∷ x ∷ xs) (x ∷ xs) (x ∷ insert_key cmp xs k))
          ≡ cond (is_eq r || has cmp k xs) (sum_by f (x ∷ xs)) (f k + sum_by f (x ∷ xs))
      by Less e h = rw (absent k xs (above k x xs e s.0)) (sum_by-cons f k (x ∷ xs))
      by Equal e h = refl
      by Greater e h = later (has cmp k xs) h
        where
          later : (b : Bool)
              → sum_by f (insert_key cmp xs k) ≡ cond b (sum_by f xs) (f k + sum_by f xs)
              → sum_by f (x ∷ insert_key cmp xs k)
              ≡ cond b (sum_by f (x ∷ xs)) (f k + sum_by f (x ∷ xs))
          later true h = omega (arith, sum_by-cons f x (insert_key cmp xs k), sum_by-cons f x xs, h)
          later false h =
              omega (arith, sum_by-cons f x (insert_key cmp xs k), sum_by-cons f x xs, h)

  -- sums over the members of a list are sums over the rising list
  pub sum_members : (f : A → ℕ) (xs : List A)
      → sum_by f (members (eq_by_cmp cmp) xs) ≡ sum_by f (rising cmp xs)
  unfolding rising
  sum_members f [] = refl
  sum_members f (x ∷ xs) =
      by (has cmp x xs) (sum_members f xs) ∙ sym (sum_insert f x (rising cmp xs) (rises xs) ∙ ap
      (λ b. cond b (sum_by f (rising cmp xs)) (f x + sum_by f (rising cmp xs))) (has_rising x xs))
    where
      by : (b : Bool) → sum_by f (members (eq_by_cmp cmp) xs) ≡ sum_by f (rising cmp xs)
          → sum_by f (cond b (members (eq_by_cmp cmp) xs) (x ∷ members (eq_by_cmp cmp) xs))
          ≡ cond b (sum_by f (rising cmp xs)) (f x + sum_by f (rising cmp xs))
      by true h = h
      by false h = sum_by-cons f x (members (eq_by_cmp cmp) xs) ∙ ap (λ n. f x + n) h

  -- as many are there
  pub length_members : (xs : List A) → length (members (eq_by_cmp cmp) xs) ≡ length (rising cmp xs)
  length_members xs = sym (count_all (members (eq_by_cmp cmp) xs)) ∙ sum_members (λ x. 1) xs
      ∙ count_all (rising cmp xs)

  -- what holds of each holds in rising order
  pub all_rising : (P : A → Type 0) (xs : List A) → AllByRecursion P xs
      → AllByRecursion P (rising cmp xs)
  unfolding rising
  all_rising P [] all = tt
  all_rising P (x ∷ xs) all =
      recursion_from_All P _ (All-insert_key cmp x P (rising cmp xs)
      (All-from_recursion P _ (all_rising P xs all.1)) all.0)

  -- nor is what ties with one below all members
  tied_absent : (q x : A) (xs : List A) → cmp q x ≡ Equal → AllByRecursion (λ y. cmp x y ≡ Less) xs
      → has cmp q xs ≡ false
  tied_absent q x [] e s = refl
  tied_absent q x (y ∷ ys) e s = rw (o.congr q x y e ∙ s.0) (tied_absent q x ys e s.1)

  has_head : (x : A) (xs : List A) → has cmp x (x ∷ xs) ≡ true
  has_head x xs = rw (tied_itself o x) refl

  -- the members after the first ones are the same
  same_tails : (x y : A) (xs ys : List A) → cmp x y ≡ Equal
      → AllByRecursion (λ z. cmp x z ≡ Less) xs → AllByRecursion (λ z. cmp y z ≡ Less) ys
      → ((q : A) → has cmp q (x ∷ xs) ≡ has cmp q (y ∷ ys)) → (q : A) → has cmp q xs ≡ has cmp q ys
  same_tails x y xs ys e s t h q = by (cmp q x) refl (alike_right o x y q e) (h q)
    where
      by : (r : Ordering) → cmp q x ≡ r → r ≡ cmp q y
          → (is_eq r || has cmp q xs) ≡ (is_eq (cmp q y) || has cmp q ys)
          → has cmp q xs ≡ has cmp q ys
      by Less a b c = rw (← b) at c
      by Equal a b c = tied_absent q x xs a s ∙ sym (tied_absent q y ys (sym b) t)
      by Greater a b c = rw (← b) at c

  -- a list that rises is determined by its members
  pub one_rising : ((x y : A) → cmp x y ≡ Equal → x ≡ y) → (xs ys : List A)
      → IsStrictlySortedBy cmp xs → IsStrictlySortedBy cmp ys
      → ((q : A) → has cmp q xs ≡ has cmp q ys) → xs ≡ ys
  unfolding IsStrictlySortedBy
  one_rising real [] [] s t h = refl
  one_rising real [] (y ∷ ys) s t h = absurd (true≢false (sym (h y ∙ has_head y ys)))
  one_rising real (x ∷ xs) [] s t h = absurd (true≢false (sym (sym (h x) ∙ has_head x xs)))
  one_rising real (x ∷ xs) (y ∷ ys) s t h = by (cmp x y) refl (one_rising real xs ys s.1 t.1)
    where
      by : (r : Ordering) → cmp x y ≡ r → (((q : A) → has cmp q xs ≡ has cmp q ys) → xs ≡ ys)
          → x ∷ xs ≡ y ∷ ys
      by Less e tails = absurd
          (true≢false (sym (has_head x xs) ∙ h x ∙ absent x (y ∷ ys) (e, above x y ys e t.0)))
      by Equal e tails = ap₂ (λ (z : A) (zs : List A). z ∷ zs) (real x y e)
          (tails (same_tails x y xs ys e s.0 t.0 h))
      by Greater e tails =
          let f = flipped x y e in
          absurd
          (true≢false (sym (has_head y ys) ∙ sym (h y) ∙ absent y (x ∷ xs) (f, above y x xs f s.0)))
