-- Things of which each two differ are no more than the places that they go to, one
-- thing to a place.
use Rattle.std.proofs.Common.{◌≡◌, ℕ, zero, suc, ◌<◌, ◌≤◌, ◌⊎◌, List, [], ◌∷◌, ◌++◌, length, get_or}
use Rattle.std.proofs.Common.{refl, sym, ap, subst, inl, inr, arith, length-append}
use Rattle.std.specs.List.{AllByRecursion, AllPairs, Contains}
use Rattle.std.proofs.lemmas.List.Elements.{Contains-append_left, Contains-append_right}
use Rattle.std.proofs.lemmas.List.Elements.{Contains-append_cases}

-- what holds of each that is in a list holds of all
pub all_of_contained : {A : Type 0} (P : A → Type 0) (xs : List A) → ((x : A) → Contains xs x → P x)
    → AllByRecursion P xs
all_of_contained P [] each = tt
all_of_contained P (x ∷ xs) each = (
  each x (0, omega arith, refl),
  all_of_contained P xs (λ y c. each y (Contains-append_right (x ∷ []) xs y c)),
)

-- a fact of each that is another fact of it
pub all_as : {A : Type 0} (P Q : A → Type 0) (xs : List A) → ((x : A) → P x → Q x)
    → AllByRecursion P xs → AllByRecursion Q xs
all_as P Q [] is all = tt
all_as P Q (x ∷ xs) is all = (is x all.0, all_as P Q xs is all.1)

-- two facts of all give a third
all_from_both : {A : Type 0} (P Q R : A → Type 0) (xs : List A) → ((x : A) → P x → Q x → R x)
    → AllByRecursion P xs → AllByRecursion Q xs → AllByRecursion R xs
all_from_both P Q R [] both p q = tt
all_from_both P Q R (x ∷ xs) both p q = (both x p.0 q.0, all_from_both P Q R xs both p.1 q.1)

-- what holds of all holds at each index
all_at : {A : Type 0} (P : A → Type 0) (xs : List A) (k : ℕ) (d : A) → k < length xs
    → AllByRecursion P xs → P (get_or xs k d)
all_at P [] k d lt all = absurd (omega arith)
all_at P (x ∷ xs) zero d lt all = all.0
all_at P (x ∷ xs) (suc k) d lt all = all_at P xs k d (omega arith) all.1

-- and the other way
all_by_index : {A : Type 0} (P : A → Type 0) (xs : List A) (d : A)
    → ((k : ℕ) → k < length xs → P (get_or xs k d)) → AllByRecursion P xs
all_by_index P [] d each = tt
all_by_index P (x ∷ xs) d each =
    (each 0 (omega arith), all_by_index P xs d (λ k lt. each (suc k) (omega arith)))

module _ {A : Type 0} (R : A → A → Type 0) where
  -- the first and each other
  pub pairs_first : (x : A) (xs : List A) → AllPairs R (x ∷ xs) → AllByRecursion (R x) xs
  pairs_first x xs all =
      all_by_index (R x) xs x (λ k lt. all 0 (suc k) x (omega arith) (omega arith))

  -- the others
  pub pairs_rest : (x : A) (xs : List A) → AllPairs R (x ∷ xs) → AllPairs R xs
  pairs_rest x xs all = λ i j d lt within. all (suc i) (suc j) d (omega arith) (omega arith)

  -- one more in front
  pub pairs_more : (x : A) (xs : List A) → AllByRecursion (R x) xs → AllPairs R xs
      → AllPairs R (x ∷ xs)
  pairs_more x xs first rest zero zero d lt within = absurd (omega arith)
  pairs_more x xs first rest zero (suc j) d lt within = all_at (R x) xs j d (omega arith) first
  pairs_more x xs first rest (suc i) zero d lt within = absurd (omega arith)
  pairs_more x xs first rest (suc i) (suc j) d lt within = rest i j d (omega arith) (omega arith)

-- a list parted at something that is in it
parted_at : {B : Type 0} (ys : List B) (y : B) (k : ℕ) → k < length ys → get_or ys k y ≡ y
    → (before : List B) × (after : List B) × (ys ≡ before ++ y ∷ after)
parted_at [] y k lt same = absurd (omega arith)
parted_at (z ∷ ys) y zero lt same = ([], ys, ap (λ v. v ∷ ys) same)
parted_at (z ∷ ys) y (suc k) lt same =
    let rest = parted_at ys y k (omega arith) same in (z ∷ rest.0, rest.1, ap (λ v. z ∷ v) rest.2)

-- what is in a parted list is the thing itself or in one of the parts
others : {B : Type 0} (before after : List B) (y other : B) → Contains (before ++ y ∷ after) other
    → (y ≡ other) ⊎ Contains (before ++ after) other
others before after y other c = elim (Contains-append_cases before (y ∷ after) other c) [
  | inl in_before ↦ inr (Contains-append_left before after other in_before)
  | inr in_rest ↦ elim (Contains-append_cases (y ∷ []) after other in_rest) [
    | inl (zero, lt, same) ↦ inl same
    | inl (suc k, lt, same) ↦ absurd (omega arith)
    | inr in_after ↦ inr (Contains-append_right before after other in_after)
  ]
]

module _ {A B : Type 0} (goes : A → B → Type 0) (apart : A → A → Type 0)
    (alone : (x other : A) (y : B) → goes x y → goes other y → apart x other → ⊥) where
  -- a place for the thing
  abbrev HasPlace : List B → A → Type 0
  HasPlace ys x = (y : B) × Contains ys y × goes x y

  -- there are as many places
  pub as_many_places : (xs : List A) (ys : List B)
      → AllByRecursion (λ x. (y : B) × Contains ys y × goes x y) xs
      → AllPairs apart xs → length xs ≤ length ys
  as_many_places [] ys all differ = omega arith
  as_many_places (x ∷ xs) ys all differ =
      let (y, c, here) = all.0 in
      let parted = parted_at ys y c.0 c.1 c.2 in
      let fewer = as_many_places xs (parted.0 ++ parted.1)
      (all_from_both (HasPlace ys) (apart x) (HasPlace (parted.0 ++ parted.1)) xs
      (λ other (there : HasPlace ys other) differs.
      elim (others parted.0 parted.1 y there.0 (subst (λ l. Contains l there.0) parted.2 there.1)) [
        | inl same ↦ absurd (alone x other y here (subst (goes other) (sym same) there.2) differs)
        | inr c' ↦ (there.0, c', there.2)
      ])
      all.1 (pairs_first apart x xs differ))
      (pairs_rest apart x xs differ) in
      omega (
        arith,
        ap length parted.2,
        length-append parted.0 (y ∷ parted.1),
        length-append parted.0 parted.1,
      )
