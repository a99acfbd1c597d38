-- Lists with one more element at their end.
use Rattle.std.proofs.Common.{◌≡◌, ◌⊎◌, ◌<◌, ℕ, zero, suc, ◌+◌, Bool, true, false, cond, not, ◌||◌}
use Rattle.std.proofs.Common.{List, [], ◌∷◌, ◌++◌, length, Some, refl, ap, ◌∙◌, inl, inr, ⊎_elim, arith}
use Rattle.std.proofs.Common.{one-add}
use Rattle.std.specs.List.{list_any, position_or_len, slice_get}

-- an element is one of those before, or the last
pub at_push : {T : Type 0} (xs : List T) (y : T) (place : ℕ) (x : T)
    → slice_get (xs ++ y ∷ []) place ≡ Some x
    → (slice_get xs place ≡ Some x) ⊎ ((place ≡ length xs) × (y ≡ x))
at_push [] y zero x there = inr (refl, cc)
at_push [] y (suc place) x there = absurd (cc)
at_push (first ∷ xs) y zero x there = inl there
at_push (first ∷ xs) y (suc place) x there =
    ⊎_elim inl (λ (last, same). inr (ap suc last, same)) (at_push xs y place x there)

-- those before stay where they are
pub before_push : {T : Type 0} (xs : List T) (y : T) (place : ℕ) (x : T)
    → slice_get xs place ≡ Some x → slice_get (xs ++ y ∷ []) place ≡ Some x
before_push [] y place x there = absurd (cc)
before_push (first ∷ xs) y zero x there = there
before_push (first ∷ xs) y (suc place) x there = before_push xs y place x there

-- an element that passes a test is found
pub found_there : {T : Type 0} (test : T → Bool) (xs : List T) → list_any test xs ≡ true
    → (x : T) × (slice_get xs (position_or_len test xs) ≡ Some x) × (test x ≡ true)
found_there {T} test [] some = absurd (cc)
found_there {T} test (first ∷ xs) some =
    by (test first) refl (found_there test xs) some
  where
    by : (b : Bool) → test first ≡ b
        → (list_any test xs ≡ true
        → (x : T) × (slice_get xs (position_or_len test xs) ≡ Some x) × (test x ≡ true))
        → (b || list_any test xs) ≡ true
        → (x : T) × (slice_get (first ∷ xs) (cond (not b) (1 + position_or_len test xs) 0) ≡ Some x)
        × (test x ≡ true)
    by true is later some = (first, refl, is)
    by false is later some =
        let there = later some in
        (there.0, ap (slice_get (first ∷ xs)) (one-add (position_or_len test xs)) ∙ there.1, there.2)

-- where none passes the place is the end
pub none_there : {T : Type 0} (test : T → Bool) (xs : List T) → list_any test xs ≡ false
    → position_or_len test xs ≡ length xs
none_there test [] none = refl
none_there test (first ∷ xs) none = by (test first) (none_there test xs) none
  where
    by : (b : Bool) → (list_any test xs ≡ false → position_or_len test xs ≡ length xs)
        → (b || list_any test xs) ≡ false
        → cond (not b) (1 + position_or_len test xs) 0 ≡ length (first ∷ xs)
    by true later none = absurd (cc)
    by false later none = let there = later none in omega (arith, there)
