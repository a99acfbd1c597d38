-- Tests that decide facts.
use Rattle.std.proofs.Common.{◌≡◌, ◌≢◌, ◌↔◌, ℕ, List, Bool, true, false, not, refl, sym, ap, ◌∙◌}
use Rattle.std.proofs.lemmas.Slice.Eq.{bytes_eq-Decides}
use Rattle.std.specs.Prelude.{IsTrue, MatchBool, Result, Ok, Err, IfOk}
use Rattle.std.specs.Str.{bytes_eq}

-- a test of a fact decides another one that is the same
pub decides : (test : Bool) (A B : Type 0) → IsTrue test ↔ A → A ↔ B → MatchBool test B (B → ⊥)
decides true A B decided same = same.0 (decided.0 refl)
decides false A B decided same = λ b. let never : false ≡ true = decided.1 (same.1 b) in cc

-- a test that decides a fact decides another one that follows from it, and from which it follows
pub decides_too : (test : Bool) (A B : Type 0) → MatchBool test A (A → ⊥) → (A → B) → (B → A)
    → MatchBool test B (B → ⊥)
decides_too true A B a on back = on a
decides_too false A B none on back = λ b. none (back b)

-- the same for two facts
pub decides_both : (test : Bool) (A B C : Type 0) → MatchBool test (A × B) (A → B → ⊥) → (A × B → C)
    → (C → A × B) → MatchBool test C (C → ⊥)
decides_both true A B C both on back = on both
decides_both false A B C none on back = λ c. none (back c).0 (back c).1

-- a test is not both
pub not_both : (test : Bool) → test ≡ true → test ≡ false → ⊥
not_both test is none = let never : true ≡ false = sym is ∙ none in cc

-- lists of numbers that a test finds different differ, and others are the same
pub found_different : (xs ys : List ℕ) (test : Bool) → test ≡ not (bytes_eq xs ys)
    → test ≡ true → xs ≢ ys
found_different xs ys test is differ same =
    not_both test differ (is ∙ ap not ((bytes_eq-Decides xs ys).1 same))

pub found_same : (xs ys : List ℕ) (test : Bool) → test ≡ not (bytes_eq xs ys)
    → test ≡ false → xs ≡ ys
found_same xs ys test is none = (bytes_eq-Decides xs ys).0 (turned (bytes_eq xs ys) (sym is ∙ none))
  where
    turned : (equal : Bool) → not equal ≡ false → equal ≡ true
    turned true e = refl
    turned false e = absurd (not_both true refl e)

-- what follows from a fact of a result
pub ok_as : {T E : Type 0} (result : Result T E) (P Q : T → Type 0) → ((x : T) → P x → Q x)
    → IfOk result P → IfOk result Q
ok_as (Ok x) P Q is p = is x p
ok_as (Err e) P Q is p = tt
