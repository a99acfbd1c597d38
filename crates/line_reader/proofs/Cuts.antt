-- Lists cut at the first element that passes a test.
use Rattle.std.proofs.Common.{◌≡◌, Bool, true, false, List, [], ◌∷◌, ◌++◌, length, get_or, nat_lt}
use Rattle.std.proofs.Common.{refl, sym, ◌∙◌, arith}
use Rattle.std.specs.List.{All, list_any, position_or_len, after_first, before_first}
use Rattle.std.proofs.Math.Seq.{drop-append-add, take-append_seam}
use Rattle.std.proofs.lemmas.Bool.{false_from_ne_true, true≢false}
use Rattle.std.proofs.lemmas.List.Folds.{list_any_at}
use Rattle.std.proofs.lemmas.Bool.Decides.{nat_tests}
use Rattle.std.proofs.lemmas.Grind.{common_steps}

-- an element passes where one is found
pub is_found : {X : Type 0} (p : X → Bool) (xs : List X)
    → list_any p xs ≡ nat_lt (position_or_len p xs) (length xs)
is_found p [] = refl
is_found p (x ∷ xs) = grind (arith, nat_tests, common_steps, is_found p xs)

-- where none passes, nothing follows
pub nothing_after : {X : Type 0} (p : X → Bool) (xs : List X) → list_any p xs ≡ false
    → after_first p xs ≡ []
nothing_after p [] none = refl
nothing_after p (x ∷ xs) none = grind (arith, nat_tests, common_steps, nothing_after p xs)

-- and all stands before
pub before_first-none : {X : Type 0} (p : X → Bool) (xs : List X) → list_any p xs ≡ false
    → before_first p xs ≡ xs
before_first-none p [] none = refl
before_first-none p (x ∷ xs) none = grind (arith, nat_tests, common_steps, before_first-none p xs)

-- each of them fails the test
pub All-none : {X : Type 0} (p : X → Bool) (xs : List X) → list_any p xs ≡ false
    → All (λ x. p x ≡ false) xs
All-none p xs none k d within = false_from_ne_true (p (get_or xs k d))
    (λ passes. true≢false (sym (list_any_at p xs k d within passes) ∙ none))

-- the place of an element that passes, where none before it does
position_or_len-front : {X : Type 0} (p : X → Bool) (xs : List X) (y : X) (ys : List X)
    → list_any p xs ≡ false → p y ≡ true → position_or_len p (xs ++ y ∷ ys) ≡ length xs
position_or_len-front p [] y ys none passes = rw passes refl
position_or_len-front p (x ∷ xs) y ys none passes =
    grind (arith, nat_tests, common_steps, position_or_len-front p xs y ys)

-- what stands before it
pub before_first-front : {X : Type 0} (p : X → Bool) (xs : List X) (y : X) (ys : List X)
    → list_any p xs ≡ false → p y ≡ true → before_first p (xs ++ y ∷ ys) ≡ xs
before_first-front p xs y ys none passes =
    rw (position_or_len-front p xs y ys none passes) (take-append_seam xs (y ∷ ys))

-- and what stands after it
pub after_first-front : {X : Type 0} (p : X → Bool) (xs : List X) (y : X) (ys : List X)
    → list_any p xs ≡ false → p y ≡ true → after_first p (xs ++ y ∷ ys) ≡ ys
after_first-front p xs y ys none passes =
    rw (position_or_len-front p xs y ys none passes) (drop-append-add xs (y ∷ ys) 1)
