-- How the entries of a table are found, and how they grow.
use Rattle.std.proofs.Common.{◌≡◌, ℕ, Bool, true, false, cond, ◌||◌, List, [], ◌∷◌, ◌++◌, Option}
use Rattle.std.proofs.Common.{None, Some, refl, ◌∙◌, ap, arith, sym, subst}
use Rattle.std.specs.List.{IsDistinct, list_any, Contains}
use Rattle.std.specs.Str.{bytes_eq}
use Rattle.std.proofs.lemmas.Cmp.{nat_list_eq_equiv}
use Rattle.std.proofs.lemmas.List.{map_push}
use Rattle.std.proofs.lemmas.List.Elements.{All-push, Contains-append_right, Contains-get_or}
use Rattle.std.proofs.lemmas.Bool.{false≢true}
use Rattle.std.proofs.lemmas.Map.Views.{list_any-from_Contains}
use Rattle.std.proofs.lemmas.Slice.Eq.{bytes_eq-Decides}
use Rattle.std.proofs.lemmas.Map.Keys.{IsDistinct-push}
use Rattle.value_ops.specs.declared.scalar.Scalar.{Scalar}
use Rattle.value_ops.specs.Entries.{keys_of, values_of, HasDistinctKeys, value_at}
use Rattle.value_ops.specs.Texts.{IsText}
use Rattle.value_ops.specs.Types.{IsScalar, IsTable}

-- where nothing is found, the first key is another one, and so are the others
neither_from_none : (first others : Bool) (value : Scalar) (rest : Option Scalar)
    → cond first (Some value) rest ≡ None → (rest ≡ None → others ≡ false)
    → (first || others) ≡ false
neither_from_none true others value rest none other_keys = cc
neither_from_none false others value rest none other_keys = other_keys none

-- a key under which nothing stands is none of the keys
no_key_from_none : (key : List ℕ) (entries : List (List ℕ × Scalar)) → value_at key entries ≡ None
    → list_any (bytes_eq key) (keys_of entries) ≡ false
no_key_from_none key [] none = refl
no_key_from_none key (entry ∷ entries) none =
    ap (λ b. b || list_any (bytes_eq key) (keys_of entries)) (nat_list_eq_equiv.symm key entry.0)
    ∙ neither_from_none (bytes_eq entry.0 key) _ entry.1 (value_at key entries) none
    (no_key_from_none key entries)

-- and no entry has it
pub absent_from_none : (key : List ℕ) (entries : List (List ℕ × Scalar))
    → value_at key entries ≡ None → ¬ Contains (keys_of entries) key
absent_from_none key entries none contained =
    false≢true (sym (no_key_from_none key entries none)
    ∙ list_any-from_Contains nat_list_eq_equiv key (keys_of entries) contained)

-- the first key is the one that was looked for, or it is one of the others
first_or_other : (first : List ℕ) (keys : List (List ℕ)) (key : List ℕ) (is_first : Bool)
    (value found : Scalar) (rest : Option Scalar) → bytes_eq first key ≡ is_first
    → cond is_first (Some value) rest ≡ Some found → (rest ≡ Some found → Contains keys key)
    → Contains (first ∷ keys) key
first_or_other first keys key true value found rest is some other =
    subst (Contains (first ∷ keys)) ((bytes_eq-Decides first key).0 is)
    (Contains-get_or (first ∷ keys) 0 first (omega arith))
first_or_other first keys key false value found rest is some other =
    Contains-append_right (first ∷ []) keys key (other some)

-- what stands under a key stands under one of the keys
key_from_some : (key : List ℕ) (entries : List (List ℕ × Scalar)) (found : Scalar)
    → value_at key entries ≡ Some found → Contains (keys_of entries) key
key_from_some key [] found some = cc
key_from_some key (entry ∷ entries) found some =
    first_or_other entry.0 (keys_of entries) key (bytes_eq entry.0 key) entry.1 found
    (value_at key entries) refl some (key_from_some key entries found)

-- so nothing stands under a key that no entry has
none_unless : (found : Option Scalar) (Has : Type 0) → ((value : Scalar) → found ≡ Some value → Has)
    → ¬ Has → found ≡ None
none_unless None Has has lacks = refl
none_unless (Some value) Has has lacks = absurd (lacks (has value refl))

pub none_from_absent : (key : List ℕ) (entries : List (List ℕ × Scalar))
    → ¬ Contains (keys_of entries) key → value_at key entries ≡ None
none_from_absent key entries =
    none_unless (value_at key entries) (Contains (keys_of entries) key) (key_from_some key entries)

-- the keys stay distinct where another one is added
HasDistinctKeys-push : (entries : List (List ℕ × Scalar)) (key : List ℕ) (value : Scalar)
    → HasDistinctKeys entries → value_at key entries ≡ None
    → HasDistinctKeys (entries ++ (key, value) ∷ [])
HasDistinctKeys-push entries key value distinct none =
    let keys : keys_of (entries ++ (key, value) ∷ []) ≡ keys_of entries ++ key ∷ [] =
    map_push (λ (e : List ℕ × Scalar). e.0) entries (key, value) in
    rw keys (IsDistinct-push nat_list_eq_equiv (keys_of entries) key distinct
    (no_key_from_none key entries none))

-- no entries are those of a table
pub empty_table : IsTable []
unfolding IsDistinct
empty_table = record {
  keys = λ k d within. absurd (omega arith);
  distinct = tt;
  scalars = λ k d within. absurd (omega arith);
}

-- they stay those of a table where another key is added, with its scalar
pub IsTable-push : (entries : List (List ℕ × Scalar)) (key : List ℕ) (value : Scalar)
    → IsTable entries → value_at key entries ≡ None → IsText key → IsScalar value
    → IsTable (entries ++ (key, value) ∷ [])
IsTable-push entries key value table none text scalar = record {
  keys = rw (map_push (λ (e : List ℕ × Scalar). e.0) entries (key, value))
      (All-push IsText (keys_of entries) key table.keys text);
  distinct = HasDistinctKeys-push entries key value table.distinct none;
  scalars = rw (map_push (λ (e : List ℕ × Scalar). e.1) entries (key, value))
      (All-push IsScalar (values_of entries) value table.scalars scalar);
}
