-- The longest run of bytes of one class at the front.
use Rattle.std.proofs.Common.{◌≡◌, ℕ, ◌<◌, ◌≤◌, Bool, true, false, cond, List, [], ◌∷◌, ◌++◌}
use Rattle.std.proofs.Common.{length, take, refl, sym, ap, ◌∙◌, subst, zero-le, arith}
use Rattle.std.specs.List.{AllByRecursion, take_while}
use Rattle.std.specs.Char.{digit_value}
use Rattle.std.specs.Str.Parse.{AllDigits}
use Rattle.std.proofs.lemmas.List.Sums.{take_while-cons}

-- as many bytes at the front as the run has are of the class
pub record Fronts (P : ℕ → Type 0) (bytes run : List ℕ) : Type 0 where
  pub within : length run ≤ length bytes
  pub each : AllByRecursion P (take (length run) bytes)

-- the run has bytes of the class only
pub run_fronts : (p : ℕ → Bool) (P : ℕ → Type 0) → ((b : ℕ) → p b ≡ true → P b) → (bytes : List ℕ)
    → Fronts P bytes (take_while p bytes)
run_fronts p P sound [] = record { within = zero-le; each = tt }
run_fronts p P sound (b ∷ bytes) =
    subst (Fronts P (b ∷ bytes)) (sym (take_while-cons p b bytes))
    (at_byte (p b) refl (run_fronts p P sound bytes))
  where
    at_byte : (passes : Bool) → p b ≡ passes → Fronts P bytes (take_while p bytes)
        → Fronts P (b ∷ bytes) (cond passes (b ∷ take_while p bytes) [])
    at_byte true is rest =
        record { within = omega (arith, rest.within); each = (sound b is, rest.each) }
    at_byte false is rest = record { within = zero-le; each = tt }

-- no longer front has
run_longest : (p : ℕ → Bool) (P : ℕ → Type 0) → ((b : ℕ) → P b → p b ≡ true) → (raw beyond : List ℕ)
    → AllByRecursion P raw → length raw ≤ length (take_while p (raw ++ beyond))
run_longest p P whole [] beyond each = zero-le
run_longest p P whole (b ∷ raw) beyond each =
    let long : take_while p (b ∷ (raw ++ beyond)) ≡ b ∷ take_while p (raw ++ beyond) =
    take_while-cons p b (raw ++ beyond)
    ∙ ap (λ c. cond c (b ∷ take_while p (raw ++ beyond)) []) (whole b each.0) in
    rw long (omega (arith, run_longest p P whole raw beyond each.1))

-- the same of bytes that are split so
pub run_longest_of : (p : ℕ → Bool) (P : ℕ → Type 0) → ((b : ℕ) → P b → p b ≡ true)
    → (bytes raw beyond : List ℕ) → bytes ≡ raw ++ beyond → AllByRecursion P raw
    → length raw ≤ length (take_while p bytes)
run_longest_of p P whole bytes raw beyond split each =
    subst (λ b. length raw ≤ length (take_while p b)) (sym split)
    (run_longest p P whole raw beyond each)

-- each is a digit
pub digits_each : (digits : List ℕ) → AllDigits 10 digits
    → AllByRecursion (λ b. digit_value b < 10) digits
digits_each [] all = tt
digits_each (b ∷ bs) all = (all.0, digits_each bs all.1)

-- and digits are they all
pub digits_all : (digits : List ℕ) → AllByRecursion (λ b. digit_value b < 10) digits
    → AllDigits 10 digits
digits_all [] each = tt
digits_all (b ∷ bs) each = (each.0, digits_all bs each.1)
