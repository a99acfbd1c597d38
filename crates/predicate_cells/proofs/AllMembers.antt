-- What holds of each member of a list, and of the lists that it was made of.
use Rattle.std.proofs.Common.{◌≡◌, zero, suc, Bool, true, false, cond, ◌||◌, List, [], ◌∷◌, ◌++◌}
use Rattle.std.proofs.Common.{refl, subst, true≢false, sym, arith}
use Rattle.std.specs.Prelude.{filter}
use Rattle.std.specs.List.{list_any, flat_map, AllByRecursion, Contains}
use Rattle.std.proofs.lemmas.Bool.{or_parts}
use Rattle.predicate_cells.specs.Classes.{members}

module _ {A : Type 0} (P : A → Type 0) where
  pub all_front : (xs ys : List A) → AllByRecursion P (xs ++ ys) → AllByRecursion P xs
  all_front [] ys all = tt
  all_front (x ∷ xs) ys all = (all.0, all_front xs ys all.1)

  pub all_back : (xs ys : List A) → AllByRecursion P (xs ++ ys) → AllByRecursion P ys
  all_back [] ys all = all
  all_back (x ∷ xs) ys all = all_back xs ys all.1

  -- what a test leaves out need not be shown
  pub all_filtered : (test : A → Bool) → ((x : A) → test x ≡ false → P x) → (xs : List A)
      → AllByRecursion P (filter test xs) → AllByRecursion P xs
  all_filtered test others [] all = tt
  all_filtered test others (x ∷ xs) all = by (test x) refl (all_filtered test others xs) all
    where
      by : (b : Bool) → test x ≡ b → (AllByRecursion P (filter test xs) → AllByRecursion P xs)
          → AllByRecursion P (cond b (x ∷ filter test xs) (filter test xs))
          → P x × AllByRecursion P xs
      by true e rest all = (all.0, rest all.1)
      by false e rest all = (others x e, rest all)

  -- what is the same as a member
  pub all_found : (same : A → A → Bool) → ((x y : A) → same x y ≡ true → x ≡ y)
      → (q : A) (xs : List A) → AllByRecursion P xs → list_any (same q) xs ≡ true → P q
  all_found same real q [] all found = absurd (true≢false (sym found))
  all_found same real q (x ∷ xs) all found =
      by (same q x) refl (all_found same real q xs all.1) found
    where
      by : (b : Bool) → same q x ≡ b → (list_any (same q) xs ≡ true → P q)
          → (b || list_any (same q) xs) ≡ true → P q
      by true e rest found = subst P (sym (real q x e)) all.0
      by false e rest found = rest found

  -- each of the members once
  pub all_members : (same : A → A → Bool) → ((x y : A) → same x y ≡ true → x ≡ y) → (xs : List A)
      → AllByRecursion P (members same xs) → AllByRecursion P xs
  all_members same real [] all = tt
  all_members same real (x ∷ xs) all = by (list_any (same x) xs) refl (all_members same real xs) all
    where
      by : (b : Bool) → list_any (same x) xs ≡ b
          → (AllByRecursion P (members same xs) → AllByRecursion P xs)
          → AllByRecursion P (cond b (members same xs) (x ∷ members same xs))
          → P x × AllByRecursion P xs
      by true e rest all = (all_found same real x xs (rest all) e, rest all)
      by false e rest all = (all.0, rest all.1)

  -- the lists of a list's members, one after the other
  pub all_flat : {B : Type 0} (f : B → List A) (bs : List B) (b : B) → Contains bs b
      → AllByRecursion P (flat_map f bs) → AllByRecursion P (f b)
  all_flat f [] b (k, lt, is) all = absurd (omega arith)
  all_flat f (c ∷ cs) b (zero, lt, is) all =
      subst (λ z. AllByRecursion P (f z)) is (all_front (f c) (flat_map f cs) all)
  all_flat f (c ∷ cs) b (suc k, lt, is) all =
      all_flat f cs b (k, omega arith, is) (all_back (f c) (flat_map f cs) all)

-- what follows from it for each holds for all
pub all_each : {A : Type 0} (P Q : A → Type 0) → ((x : A) → P x → Q x) → (xs : List A)
    → AllByRecursion P xs → AllByRecursion Q xs
all_each P Q each [] all = tt
all_each P Q each (x ∷ xs) all = (each x all.0, all_each P Q each xs all.1)

-- a test that no member passes
pub none_passes : {A : Type 0} (test : A → Bool) (xs : List A) → list_any test xs ≡ false
    → AllByRecursion (λ x. test x ≡ false) xs
none_passes test [] e = tt
none_passes test (x ∷ xs) e = let both = or_parts (test x) (list_any test xs) e in
    (both.0, none_passes test xs both.1)

-- what holds of everything
pub all_any : {A : Type 0} {P : A → Type 0} → ((x : A) → P x) → (xs : List A) → AllByRecursion P xs
all_any each [] = tt
all_any each (x ∷ xs) = (each x, all_any each xs)

-- what follows from two facts of each
pub all_both : {A : Type 0} {P Q R : A → Type 0} → ((x : A) → P x → Q x → R x) → (xs : List A)
    → AllByRecursion P xs → AllByRecursion Q xs → AllByRecursion R xs
all_both each [] all other = tt
all_both each (x ∷ xs) all other = (each x all.0 other.0, all_both each xs all.1 other.1)
