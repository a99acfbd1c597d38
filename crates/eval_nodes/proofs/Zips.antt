-- Two lists side by side.
use Rattle.std.proofs.Common.{◌≡◌, ℕ, zero, suc, List, [], ◌∷◌, ◌++◌, Some, slice_get, length, map}
use Rattle.std.proofs.Common.{refl, ap, inl, inr, subst}
use Rattle.std.specs.List.{AllByRecursion, AllZip, Contains}
use Rattle.std.proofs.lemmas.Option.{none-some, same_Some}
use Rattle.eval_nodes.proofs.Members.{first_member, later_member, member_cases, no_member}

-- what is read at an index is there
pub read_there : {A : Type 0} (xs : List A) (i : ℕ) (x : A)
    → slice_get xs i ≡ Some x → Contains xs x
read_there [] i x at = absurd (none-some x at)
read_there (y ∷ xs) zero x at = subst (Contains (y ∷ xs)) (same_Some y x at) (first_member y xs)
read_there (y ∷ xs) (suc i) x at = later_member y x xs (read_there xs i x at)

module _ {A B : Type 0} (P : A → B → Type 0) where
  pub zip_long : (xs : List A) (ys : List B) → AllZip P xs ys → length ys ≡ length xs
  zip_long [] [] zip = refl
  zip_long (x ∷ xs) (y ∷ ys) zip = ap suc (zip_long xs ys zip.1)
  zip_long [] (y ∷ ys) zip = absurd zip
  zip_long (x ∷ xs) [] zip = absurd zip

  -- what stands beside the second at an index
  pub zip_first : (xs : List A) (ys : List B) (i : ℕ) (y : B) → slice_get ys i ≡ Some y
      → AllZip P xs ys → (x : A) × (slice_get xs i ≡ Some x) × P x y
  zip_first (x ∷ xs) (z ∷ ys) zero y at zip = (x, refl, subst (P x) (same_Some z y at) zip.0)
  zip_first (x ∷ xs) (z ∷ ys) (suc i) y at zip = zip_first xs ys i y at zip.1
  zip_first [] [] i y at zip = absurd (none-some y at)
  zip_first [] (z ∷ ys) i y at zip = absurd zip
  zip_first (x ∷ xs) [] i y at zip = absurd zip

  -- one that is among the second has one beside it
  pub zip_member : (xs : List A) (ys : List B) (y : B) → Contains ys y → AllZip P xs ys
      → (x : A) × Contains xs x × P x y
  zip_member [] [] y there zip = absurd (no_member y there)
  zip_member [] (z ∷ ys) y there zip = absurd zip
  zip_member (x ∷ xs) [] y there zip = absurd zip
  zip_member (x ∷ xs) (z ∷ ys) y there zip = elim (member_cases z y ys there) [
    | inl same ↦ (x, first_member x xs, subst (P x) same zip.0)
    | inr later ↦ let (w, among, is) = zip_member xs ys y later zip.1 in
        (w, later_member x w xs among, is)
  ]

  pub zip_push : (xs : List A) (ys : List B) (x : A) (y : B) → AllZip P xs ys → P x y
      → AllZip P (xs ++ x ∷ []) (ys ++ y ∷ [])
  zip_push [] [] x y zip is = (is, tt)
  zip_push (z ∷ xs) (w ∷ ys) x y zip is = (zip.0, zip_push xs ys x y zip.1 is)
  zip_push [] (w ∷ ys) x y zip is = absurd zip
  zip_push (z ∷ xs) [] x y zip is = absurd zip

  -- what follows for the second from what is so of the first
  pub zip_all : (Q : A → Type 0) (S : B → Type 0) (xs : List A) (ys : List B)
      → ((x : A) (y : B) → P x y → Q x → S y) → AllZip P xs ys → AllByRecursion Q xs
      → AllByRecursion S ys
  zip_all Q S [] [] each zip all = tt
  zip_all Q S (x ∷ xs) (y ∷ ys) each zip all =
      (each x y zip.0 all.0, zip_all Q S xs ys each zip.1 all.1)
  zip_all Q S [] (y ∷ ys) each zip all = absurd zip
  zip_all Q S (x ∷ xs) [] each zip all = absurd zip

-- what is the same of two beside each other
pub zip_same : {A B C : Type 0} (P : A → B → Type 0) (f : A → C) (g : B → C)
    (xs : List A) (ys : List B) → ((x : A) (y : B) → P x y → g y ≡ f x) → AllZip P xs ys
    → map g ys ≡ map f xs
zip_same P f g [] [] each zip = refl
zip_same P f g (x ∷ xs) (y ∷ ys) each zip =
    λ i. each x y zip.0 i ∷ zip_same P f g xs ys each zip.1 i
zip_same P f g [] (y ∷ ys) each zip = absurd zip
zip_same P f g (x ∷ xs) [] each zip = absurd zip

-- what is read of a part is that of a whole
pub read_part : {A B : Type 0} (f : A → B) (xs : List A) (i : ℕ) (y : B)
    → slice_get (map f xs) i ≡ Some y → (x : A) × (slice_get xs i ≡ Some x) × (f x ≡ y)
read_part f [] i y at = absurd (none-some y at)
read_part f (x ∷ xs) zero y at = (x, refl, same_Some (f x) y at)
read_part f (x ∷ xs) (suc i) y at = read_part f xs i y at

-- parts of those that are there
pub part_there : {A B : Type 0} (f : A → B) (xs : List A) (x : A) → Contains xs x
    → Contains (map f xs) (f x)
part_there f [] x there = absurd (no_member x there)
part_there f (z ∷ xs) x there = elim (member_cases z x xs there) [
  | inl same ↦ subst (λ w. Contains (f z ∷ map f xs) (f w)) same (first_member (f z) (map f xs))
  | inr later ↦ later_member (f z) (f x) (map f xs) (part_there f xs x later)
]

pub whole_there : {A B : Type 0} (f : A → B) (xs : List A) (y : B) → Contains (map f xs) y
    → (x : A) × Contains xs x × (f x ≡ y)
whole_there f [] y there = absurd (no_member y there)
whole_there f (z ∷ xs) y there = elim (member_cases (f z) y (map f xs) there) [
  | inl same ↦ (z, first_member z xs, same)
  | inr later ↦ let (x, among, is) = whole_there f xs y later in (x, later_member z x xs among, is)
]

-- one list beside the second of two
pub zip_through : {A B C : Type 0} (P : A → B → Type 0) (Q : B → C → Type 0)
    (S : A → C → Type 0) (xs : List A) (ys : List B) (zs : List C)
    → ((x : A) (y : B) (z : C) → P x y → Q y z → S x z) → AllZip P xs ys
    → AllZip Q ys zs → AllZip S xs zs
zip_through P Q S [] [] [] each zip other = tt
zip_through P Q S (x ∷ xs) (y ∷ ys) (z ∷ zs) each zip other =
    (each x y z zip.0 other.0, zip_through P Q S xs ys zs each zip.1 other.1)
zip_through P Q S [] [] (z ∷ zs) each zip other = absurd other
zip_through P Q S [] (y ∷ ys) zs each zip other = absurd zip
zip_through P Q S (x ∷ xs) [] zs each zip other = absurd zip
zip_through P Q S (x ∷ xs) (y ∷ ys) [] each zip other = absurd other
