-- Lists of a dump beside what is put back of them.
use Rattle.std.proofs.Common.{◌≡◌, ◌≤◌, ◌+◌, ◌++◌, ℕ, zero, suc, List, [], ◌∷◌, Some}
use Rattle.std.proofs.Common.{length, map, take, refl, sym, ap, subst, inl, inr, arith}
use Rattle.std.specs.List.{AllByRecursion, AllZip, Contains, slice_get}
use Rattle.std.proofs.lemmas.List.{take_all}
use Rattle.std.proofs.lemmas.Option.{none-some, same_Some}
use Rattle.eval_nodes.specs.Starts.{AreDifferent}
use Rattle.eval_nodes.proofs.Members.{member_cases, no_member}
use Rattle.eval_nodes.proofs.Runners.{take_one}
use Rattle.eval_nodes.proofs.Zips.{part_there, read_there, zip_push}

-- a number that stands once does not stand before its place
pub key_before : {A : Type 0} (key : A → ℕ) (xs : List A) (i : ℕ) (x : A)
    → AreDifferent (map key xs) → slice_get xs i ≡ Some x → Contains (map key (take i xs)) (key x)
    → ⊥
key_before key [] i x different at there = none-some x at
key_before key (y ∷ xs) zero x different at there = no_member (key x) there
key_before key (y ∷ xs) (suc i) x different at there =
    elim (member_cases (key y) (key x) (map key (take i xs)) there) [
      | inl same ↦ different.0
          (subst (Contains (map key xs)) (sym same) (part_there key xs x (read_there xs i x at)))
      | inr later ↦ key_before key xs i x different.1 at later
    ]

-- so many of a list
pub taken_count : {A : Type 0} (xs : List A) (i : ℕ) → i ≤ length xs → length (take i xs) ≡ i
taken_count xs zero few = refl
taken_count (x ∷ xs) (suc i) few = ap suc (taken_count xs i (omega (arith, few)))
taken_count [] (suc i) few = absurd (omega (arith, few))

-- a part of what is read at a place
pub part_read : {A B : Type 0} (f : A → B) (xs : List A) (i : ℕ) (x : A)
    → slice_get xs i ≡ Some x → slice_get (map f xs) i ≡ Some (f x)
part_read f [] i x at = absurd (none-some x at)
part_read f (y ∷ xs) zero x at = ap (λ z. Some (f z)) (same_Some y x at)
part_read f (y ∷ xs) (suc i) x at = part_read f xs i x at

module _ {A B : Type 0} (P : A → B → Type 0) where
  -- what the second is made to is the first
  pub zip_made : (f : B → A) (xs : List A) (ys : List B) → ((x : A) (y : B) → P x y → f y ≡ x)
      → AllZip P xs ys → map f ys ≡ xs
  zip_made f [] [] each zip = refl
  zip_made f (x ∷ xs) (y ∷ ys) each zip =
      λ i. each x y zip.0 i ∷ zip_made f xs ys each zip.1 i
  zip_made f [] (y ∷ ys) each zip = absurd zip
  zip_made f (x ∷ xs) [] each zip = absurd zip

  -- what follows for each of the second
  pub zip_each : (Q : B → Type 0) (xs : List A) (ys : List B) → ((x : A) (y : B) → P x y → Q y)
      → AllZip P xs ys → AllByRecursion Q ys
  zip_each Q [] [] each zip = tt
  zip_each Q (x ∷ xs) (y ∷ ys) each zip = (each x y zip.0, zip_each Q xs ys each zip.1)
  zip_each Q [] (y ∷ ys) each zip = absurd zip
  zip_each Q (x ∷ xs) [] each zip = absurd zip

  -- one more is put back
  pub zip_more : (xs : List A) (i : ℕ) (x : A) (old new : List B) (y : B)
      → slice_get xs i ≡ Some x → AllZip P (take i xs) old → P x y → new ≡ old ++ y ∷ []
      → AllZip P (take (i + 1) xs) new
  zip_more xs i x old new y at zip is after =
      subst (λ (ys : List B). AllZip P (take (i + 1) xs) ys) (sym after)
      (subst (λ (front : List A). AllZip P front (old ++ y ∷ [])) (sym (take_one xs i x at))
      (zip_push P (take i xs) old x y zip is))

  -- all are put back
  pub zip_done : (xs : List A) (i : ℕ) (ys : List B) → length xs ≤ i → AllZip P (take i xs) ys
      → AllZip P xs ys
  zip_done xs i ys end zip =
      subst (λ (front : List A). AllZip P front ys) (take_all i xs end) zip
