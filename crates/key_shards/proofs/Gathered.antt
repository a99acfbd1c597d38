-- Entries of all keys, gathered from those of the keys at each home.
use Rattle.std.proofs.Common.{◌≡◌, ◌<◌, ◌≤◌, ◌==◌, ℕ, Bool, true, false, cond, List, [], ◌∷◌}
use Rattle.std.proofs.Common.{inl, inr, refl, ap, subst, arith, eq-eqb}
use Rattle.std.specs.Prelude.{filter}
use Rattle.std.specs.List.{AllByRecursion}
use Rattle.std.proofs.lemmas.Bool.{false≢true}
use Rattle.value_ops.specs.declared.scalar.Scalar.{Scalar}
use Rattle.value_ops.specs.declared.value.Value.{Value}
use Rattle.value_ops.specs.declared.value.Value.TheVariants as value
use Rattle.value_ops.specs.Entries.{keys_of}
use Rattle.query_model.specs.Denotation.{AreEntries}
use Rattle.query_model.proofs.Keys.{entry_keys}
use Rattle.key_shards.specs.Merging.{StandInOrder}
use Rattle.key_shards.specs.Shares.{Entries, entries_of}
use Rattle.key_shards.proofs.Parting.{all_kept, all_of_theirs}

-- what holds of all keys and follows from it for each
pub all_weaker : (P Q : List ℕ → Type 0) → ((key : List ℕ) → P key → Q key) → (keys : List (List ℕ))
    → AllByRecursion P keys → AllByRecursion Q keys
all_weaker P Q each [] all = tt
all_weaker P Q each (key ∷ keys) all = (each key all.0, all_weaker P Q each keys all.1)

module _ (home : List ℕ → ℕ) where
  -- another key has the same home
  abbrev pub beside : List ℕ → List ℕ → Bool
  beside key other = home other == home key

  pub beside_itself : (key : List ℕ) → beside key key ≡ true
  beside_itself key = eq-eqb (home key) (home key) refl

module _ (home stand : List ℕ → ℕ) (D : List ℕ → Value → Type 0) where
  -- the keys and the entries at the home of a key
  abbrev near : List ℕ → List (List ℕ) → List (List ℕ)
  near at keys = filter (beside home at) keys

  abbrev entries_at : List ℕ → Entries → Entries
  entries_at at entries = entries_of (beside home at) entries

  -- the keys at each home have these entries
  abbrev pub HasAtEachHome : List (List ℕ) → Entries → Type 0
  HasAtEachHome keys entries = (at : List ℕ) → AreEntries D (near at keys) (entries_at at entries)

  -- a first key without an entry
  without_first : (key : List ℕ) (keys : List (List ℕ)) (entries : Entries)
      → ((v : Value) → D key v → ⊥) → HasAtEachHome (key ∷ keys) entries
      → HasAtEachHome keys entries
  without_first key keys entries nothing each at = by (beside home at key) (each at)
    where
      by : (b : Bool)
          → AreEntries D (cond b (key ∷ near at keys) (near at keys)) (entries_at at entries)
          → AreEntries D (near at keys) (entries_at at entries)
      by true are =
          elim are [
            | inl (scalar, others, gives, rest, whole) ↦
                absurd (nothing (value.Scalar scalar) gives)
            | inr (none, rest) ↦ rest
          ]
      by false are = are

  -- a first key with the first entry
  after_first : (key : List ℕ) (keys : List (List ℕ)) (scalar : Scalar) (entries : Entries)
      → D key (value.Scalar scalar) → HasAtEachHome (key ∷ keys) ((key, scalar) ∷ entries)
      → HasAtEachHome keys entries
  after_first key keys scalar entries gives each at = by (beside home at key) (each at)
    where
      tail : (es others : Entries) (s : Scalar) → (key, scalar) ∷ es ≡ (key, s) ∷ others
          → others ≡ es
      tail es others s same = cc

      by : (b : Bool)
          → AreEntries D (cond b (key ∷ near at keys) (near at keys))
          (cond b ((key, scalar) ∷ entries_at at entries) (entries_at at entries))
          → AreEntries D (near at keys) (entries_at at entries)
      by true are =
          elim are [
            | inl (s, others, given, rest, whole) ↦
                subst (AreEntries D (near at keys)) (tail (entries_at at entries) others s whole)
                rest
            | inr (none, rest) ↦ absurd (none (value.Scalar scalar) gives)
          ]
      by false are = are

  module _ (key : List ℕ) (keys : List (List ℕ)) (entry : List ℕ × Scalar) (entries : Entries)
      (order : StandInOrder stand (key ∷ keys))
      (rising : StandInOrder stand (keys_of (entry ∷ entries)))
      (each : HasAtEachHome (key ∷ keys) (entry ∷ entries)) where
    -- no entry stands before the first key
    not_before : stand key ≤ stand entry.0
    not_before = first (beside home entry.0 entry.0) (beside_itself home entry.0)
        (entry_keys (λ other. stand key ≤ stand other) D
        (near entry.0 (key ∷ keys)) (entries_at entry.0 (entry ∷ entries))
        (all_kept (λ other. stand key ≤ stand other) (beside home entry.0) (key ∷ keys) (
          omega arith,
          all_weaker (λ other. stand key < stand other) (λ other. stand key ≤ stand other)
              (λ other less. omega (arith, less)) keys order.0,
        ))
        (each entry.0))
      where
        first : (b : Bool) → b ≡ true
            → AllByRecursion (λ other. stand key ≤ stand other) (keys_of (cond b
            (entry ∷ entries_at entry.0 entries) (entries_at entry.0 entries)))
            → stand key ≤ stand entry.0
        first true is all = all.0
        first false is all = absurd (false≢true is)

    -- so if the key has an entry, it is the first one
    pub is_first : (scalar : Scalar) (others : Entries)
        → entries_at key (entry ∷ entries) ≡ (key, scalar) ∷ others
        → entry ≡ (key, scalar)
    is_first scalar others whole = by (beside home key entry.0) whole
      where
        by : (b : Bool) → cond b (entry ∷ entries_at key entries) (entries_at key entries)
            ≡ (key, scalar) ∷ others → entry ≡ (key, scalar)
        by true same = cc
        by false same =
            let later : AllByRecursion (λ other. stand entry.0 < stand other)
            (keys_of ((key, scalar) ∷ others)) =
            subst (λ es. AllByRecursion (λ other. stand entry.0 < stand other) (keys_of es)) same
            (all_of_theirs (λ other. stand entry.0 < stand other) (beside home key) entries
            rising.0) in
            let less = later.0 in
            let never : ⊥ = omega (arith, less, not_before) in absurd never

  first_entries : (key : List ℕ) (keys : List (List ℕ)) (entries : Entries)
      → HasAtEachHome (key ∷ keys) entries
      → AreEntries D (key ∷ near key keys) (entries_at key entries)
  first_entries key keys entries each = by (beside home key key) (beside_itself home key) (each key)
    where
      by : (b : Bool) → b ≡ true
          → AreEntries D (cond b (key ∷ near key keys) (near key keys))
          (entries_at key entries)
          → AreEntries D (key ∷ near key keys) (entries_at key entries)
      by true is are = are
      by false is are = absurd (false≢true is)

  no_entry : (entry : List ℕ × Scalar) (entries : Entries) → HasAtEachHome [] (entry ∷ entries) → ⊥
  no_entry entry entries each =
      by (beside home entry.0 entry.0) (beside_itself home entry.0) (each entry.0)
    where
      by : (b : Bool) → b ≡ true → cond b (entry ∷ entries_at entry.0 entries)
          (entries_at entry.0 entries) ≡ [] → ⊥
      by true is same = cc
      by false is same = absurd (false≢true is)

  no_first : (key : List ℕ) (scalar : Scalar) (others : Entries)
      → ◌≡◌ {A = Entries} [] ((key, scalar) ∷ others) → ⊥
  no_first key scalar others same = cc

  -- where keys and entries stand in order, the entries are those of all keys
  pub gathered : (keys : List (List ℕ)) (entries : Entries) → StandInOrder stand keys
      → StandInOrder stand (keys_of entries) → HasAtEachHome keys entries
      → AreEntries D keys entries
  gathered [] [] order rising each = refl
  gathered [] (entry ∷ entries) order rising each = absurd (no_entry entry entries each)
  gathered (key ∷ keys) [] order rising each =
      elim (first_entries key keys [] each) [
        | inl (scalar, others, gives, rest, whole) ↦ absurd (no_first key scalar others whole)
        | inr (nothing, rest) ↦ inr (
          nothing,
          gathered keys [] order.1 rising (without_first key keys [] nothing each),
        )
      ]
  gathered (key ∷ keys) (entry ∷ entries) order rising each =
      elim (first_entries key keys (entry ∷ entries) each) [
        | inl (scalar, others, gives, rest, whole) ↦
            let is = is_first key keys entry entries order rising each scalar others whole in inl (
              scalar,
              entries,
              gives,
              gathered keys entries order.1 rising.1 (after_first key keys scalar entries gives
                  (subst (λ e. HasAtEachHome (key ∷ keys) (e ∷ entries)) is each)),
              ap (λ (e : List ℕ × Scalar). e ∷ entries) is,
            )
        | inr (nothing, rest) ↦ inr (
          nothing,
          gathered keys (entry ∷ entries) order.1 rising
              (without_first key keys (entry ∷ entries) nothing each),
        )
      ]
