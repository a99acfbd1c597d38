-- Lists of starts.
use Rattle.std.proofs.Common.{◌≡◌, zero, suc, List, [], ◌∷◌, refl, arith, ◌⊎◌, inl, inr}
use Rattle.std.specs.List.{Contains}

pub no_member : {A : Type 0} (x : A) → Contains [] x → ⊥
no_member x (k, below, is) = absurd (omega (arith, below))

pub first_member : {A : Type 0} (x : A) (xs : List A) → Contains (x ∷ xs) x
first_member x xs = (0, omega arith, refl)

pub later_member : {A : Type 0} (x y : A) (xs : List A) → Contains xs y → Contains (x ∷ xs) y
later_member x y xs (k, below, is) = (suc k, omega (arith, below), is)

pub member_cases : {A : Type 0} (x y : A) (xs : List A) → Contains (x ∷ xs) y
    → (x ≡ y) ⊎ Contains xs y
member_cases x y xs (zero, below, is) = inl is
member_cases x y xs (suc k, below, is) = inr (k, omega (arith, below), is)
