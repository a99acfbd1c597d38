-- Which words have keys.
use Rattle.std.proofs.Common.{◌≡◌, ◌⊎◌, ℕ, Bool, true, false, List, [], ◌∷◌, ◌++◌, refl}
use Rattle.std.proofs.Common.{if◌then◌else◌, arith, inl, inr, suc, zero}
use Rattle.std.specs.List.{AllByRecursion, Contains, list_any}
use Rattle.std.specs.Str.{bytes_eq}
use Rattle.value_ops.specs.declared.field.Field.{Field}
use Rattle.predicates.specs.Predicates.{Predicate}
use Rattle.predicates.specs.Truth.{holds}
use Rattle.rate_expr.specs.Words.{Word}
use Rattle.query_model.specs.Denotation.{keys_after, with_key}
use Rattle.query_model.specs.Keys.{key_of}

-- a list with this first member has another one as its first, or later
pub member_cases : {A : Type 0} (x y : A) (xs : List A) → Contains (x ∷ xs) y
    → (x ≡ y) ⊎ Contains xs y
member_cases x y xs (zero, below, is) = inl is
member_cases x y xs (suc k, below, is) = inr (k, omega (arith, below), is)

pub first_member : {A : Type 0} (x : A) (xs : List A) → Contains (x ∷ xs) x
first_member x xs = (0, omega arith, refl)

pub later_member : {A : Type 0} (x y : A) (xs : List A) → Contains xs y → Contains (x ∷ xs) y
later_member x y xs (k, below, is) = (suc k, omega (arith, below), is)

-- a key was added, or was there
with_key_some : (keys : List (List ℕ)) (key : List ℕ) → with_key keys key ≡ [] → ⊥
with_key_some [] key none = absurd (cc)
with_key_some (first ∷ keys) key none = go (list_any (bytes_eq key) (first ∷ keys)) none
  where
    go : (known : Bool)
        → (if known then first ∷ keys else (first ∷ keys) ++ key ∷ []) ≡ [] → ⊥
    go true none = absurd (cc)
    go false none = absurd (cc)

-- so some are left after one more item
still_some : (every : Bool) (keys : List (List ℕ)) (key : List ℕ) → (keys ≡ [] → ⊥)
    → (if every then keys else with_key keys key) ≡ [] → ⊥
still_some true keys key some none = some none
still_some false keys key some none = with_key_some keys key none

-- all items are every key's
abbrev pub AreEvery : Predicate → Word → Type 0
AreEvery sync word = AllByRecursion (λ item. holds sync item ≡ true) word

module _ (chosen : List ℕ) (sync : Predicate) where
  pub no_keys : (keys : List (List ℕ)) (word : Word) → AreEvery sync word
      → keys_after chosen sync keys word ≡ keys
  no_keys keys [] every = refl
  no_keys keys (item ∷ word) every =
      let first = every.0 in rw first (no_keys keys word every.1)

  some_keys : (keys : List (List ℕ)) (word : Word) → (keys ≡ [] → ⊥)
      → keys_after chosen sync keys word ≡ [] → ⊥
  some_keys keys [] some none = some none
  some_keys keys (item ∷ word) some none = some_keys
      (if holds sync item then keys else with_key keys (key_of chosen item)) word
      (still_some (holds sync item) keys (key_of chosen item) some) none

  -- an item that is not every key's has a key
  pub key_of_member : (keys : List (List ℕ)) (word : Word) (item : List Field)
      → Contains word item → holds sync item ≡ false → keys_after chosen sync keys word ≡ [] → ⊥
  key_of_member keys [] item (place, below, is) own none = absurd (omega (arith, below))
  key_of_member keys (first ∷ word) item there own none =
      elim (member_cases first item word there) [
        | inl same ↦ some_keys
            (if holds sync first then keys else with_key keys (key_of chosen first)) word
            (own_first (holds sync first) (rw same own)) none
        | inr later ↦ key_of_member
            (if holds sync first then keys else with_key keys (key_of chosen first)) word item
            later own none
      ]
    where
      own_first : (every : Bool) → every ≡ false
          → (if every then keys else with_key keys (key_of chosen first)) ≡ [] → ⊥
      own_first true is none = absurd (cc)
      own_first false is none = with_key_some keys (key_of chosen first) none
