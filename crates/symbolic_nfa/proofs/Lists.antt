-- Facts of each element of a list.
use Rattle.std.proofs.Common.{◌≡◌, ℕ, zero, suc, List, [], ◌∷◌, Some, inl, inr, ◌+◌, ◌<◌, ◌≤◌}
use Rattle.std.proofs.Common.{length, ◌∙◌, arith, refl, subst, sym}
use Rattle.std.specs.Prelude.{slice_get}
use Rattle.std.proofs.Math.Nat.{lt_of_lt_of_le}
use Rattle.std.proofs.lemmas.Option.{slice_get_within}
use Rattle.std.specs.List.{AllByRecursion}
use Rattle.rate_expr.proofs.MaskSets.{below-more}

-- what holds of each element holds of the one at a place
pub all-at :
    {X : Type 0} (P : X → Type 0) (xs : List X) (i : ℕ) (x : X) → AllByRecursion P xs
    → slice_get xs i ≡ Some x → P x
all-at P [] i x all found = absurd (cc)
all-at P (first ∷ xs) zero x all found =
    let e : first ≡ x = cc in subst P e all.0
all-at P (first ∷ xs) (suc i) x all found = all-at P xs i x all.1 found

-- and what holds of the one at each place holds of each
pub all-each :
    {X : Type 0} (P : X → Type 0) (xs : List X)
    → ((i : ℕ) (x : X) → slice_get xs i ≡ Some x → P x) → AllByRecursion P xs
all-each P [] all = tt
all-each P (x ∷ xs) all = (all 0 x refl, all-each P xs (λ i y found. all (suc i) y found))

-- there is one element at a place
pub one-at :
    {X : Type 0} (xs : List X) (i j : ℕ) (x y : X) → slice_get xs i ≡ Some x → i ≡ j
    → slice_get xs j ≡ Some y → x ≡ y
one-at xs i j x y found same also =
    let both : Some x ≡ Some y =
    sym found ∙ subst (λ k. slice_get xs k ≡ Some y) (sym same) also in
    cc (both)

-- it holds of each element below a bound
abbrev pub AllBelow : {X : Type 0} → (X → Type 0) → List X → ℕ → Type 0
AllBelow {X = X} P xs bound = (i : ℕ) → i < bound → (x : X) → slice_get xs i ≡ Some x → P x

-- of none below 0
pub all-none : {X : Type 0} (P : X → Type 0) (xs : List X) → AllBelow P xs 0
all-none P xs i below x found = absurd (omega arith)

-- of one more
pub all-more :
    {X : Type 0} (P : X → Type 0) (xs : List X) (bound : ℕ) (x : X) → AllBelow P xs bound
    → slice_get xs bound ≡ Some x → P x → AllBelow P xs (bound + 1)
all-more P xs bound x all read here i below y found = elim (below-more i bound below) [
  | inr less ↦ all i less y found
  | inl same ↦
      subst P (one-at xs bound i x y read (sym same) found) here
]

-- and of all, where none is left
pub all-below :
    {X : Type 0} (P : X → Type 0) (xs : List X) (bound : ℕ) → AllBelow P xs bound
    → length xs ≤ bound → AllByRecursion P xs
all-below P xs bound all enough =
    all-each P xs
    (λ i x found. all i (lt_of_lt_of_le (slice_get_within xs i x found) enough) x found)
