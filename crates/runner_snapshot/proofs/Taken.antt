-- One more of the elements of a list, as bytes.
use Rattle.std.proofs.Common.{◌≡◌, ◌<◌, ◌+◌, ℕ, zero, suc, List, [], ◌∷◌, ◌++◌, take}
use Rattle.std.proofs.Common.{Some}
use Rattle.std.proofs.Common.{get_or, length, slice_get, refl, sym, subst, ap, ◌∙◌, append_assoc}
use Rattle.std.proofs.Common.{arith}
use Rattle.std.specs.List.{flat_map}
use Rattle.std.proofs.lemmas.List.{append-nil}
use Rattle.std.proofs.lemmas.Option.{none-some, same_Some, slice_get_read}
use Rattle.value_ops.specs.Entries.{keys_of, values_of}
use Rattle.value_ops.specs.declared.scalar.Scalar.{Scalar}
use Rattle.runner_snapshot.specs.Got.{Gets}

flat_suc : {A : Type 0} (f : A → List ℕ) (xs : List A) (i : ℕ) (x : A) → slice_get xs i ≡ Some x
    → flat_map f (take (suc i) xs) ≡ flat_map f (take i xs) ++ f x
flat_suc f [] i x is = absurd (none-some x is)
flat_suc f (first ∷ rest) zero x is = append-nil (f first) ∙ ap f (same_Some first x is)
flat_suc f (first ∷ rest) (suc i) x is =
    ap (λ (bytes : List ℕ). f first ++ bytes) (flat_suc f rest i x is)
    ∙ sym (append_assoc (f first) (flat_map f (take i rest)) (f x))

pub flat_more : {A : Type 0} (f : A → List ℕ) (xs : List A) (i : ℕ) (x : A)
    → slice_get xs i ≡ Some x → flat_map f (take (i + 1) xs) ≡ flat_map f (take i xs) ++ f x
flat_more f xs i x is =
    let next : i + 1 ≡ suc i = omega arith in
    ap (λ (n : ℕ). flat_map f (take n xs)) next ∙ flat_suc f xs i x is

-- an entry of which the key and the scalar are known
pub pair_read : (entries : List (List ℕ × Scalar)) (i : ℕ) (key : List ℕ) (scalar : Scalar)
    → slice_get (keys_of entries) i ≡ Some key → slice_get (values_of entries) i ≡ Some scalar
    → slice_get entries i ≡ Some (key, scalar)
pair_read [] i key scalar is_key is_scalar = absurd (none-some key is_key)
pair_read (entry ∷ rest) zero key scalar is_key is_scalar =
    ap (λ (k : List ℕ). Some (k, entry.1)) (same_Some entry.0 key is_key)
    ∙ ap (λ (s : Scalar). Some (key, s)) (same_Some entry.1 scalar is_scalar)
pair_read (entry ∷ rest) (suc i) key scalar is_key is_scalar =
    pair_read rest i key scalar is_key is_scalar

module _ {O : Type 0} (got : O → List ℕ → Type 0) where
  -- bytes and then others
  pub gets_both : (old so_far new : O) (a b : List ℕ) → Gets got old a so_far
      → Gets got so_far b new → Gets got old (a ++ b) new
  gets_both old so_far new a b first second = λ before is.
      subst (got new) (append_assoc before a b) (second (before ++ a) (first before is))

  -- no bytes
  pub gets_none : (old : O) → Gets got old [] old
  gets_none old = λ before is. subst (got old) (sym (append-nil before)) is

  -- one more of the elements
  pub put_more : {A : Type 0} (f : A → List ℕ) (xs : List A) (i : ℕ) (x : A) (front : List ℕ)
      (old so_far new : O) → slice_get xs i ≡ Some x
      → Gets got old (front ++ flat_map f (take i xs)) so_far → Gets got so_far (f x) new
      → Gets got old (front ++ flat_map f (take (i + 1) xs)) new
  put_more f xs i x front old so_far new is was more =
      let taken : List ℕ = flat_map f (take i xs) in
      subst (λ (bytes : List ℕ). Gets got old bytes new)
      (append_assoc front taken (f x)
      ∙ ap (λ (bytes : List ℕ). front ++ bytes) (sym (flat_more f xs i x is)))
      (gets_both old so_far new (front ++ taken) (f x) was more)

  -- the same where nothing stands in front of them, and of an element of a slice
  pub put_next : {A : Type 0} (f : A → List ℕ) (xs : List A) (i : ℕ) (x : A) (old so_far new : O)
      → i < length xs → x ≡ get_or xs i x → Gets got old (flat_map f (take i xs)) so_far
      → Gets got so_far (f x) new → Gets got old (flat_map f (take (i + 1) xs)) new
  put_next f xs i x old so_far new within is was more =
      put_more f xs i x [] old so_far new (slice_get_read xs (length xs) i x refl within is) was
      more
