-- Entries of some keys, and entries of keys that have the same words elsewhere.
use Rattle.std.proofs.Common.{◌≡◌, ◌<◌, ℕ, Bool, true, false, cond, List, [], ◌∷◌, inl, inr}
use Rattle.std.proofs.Common.{refl, sym, ap, subst}
use Rattle.std.specs.Prelude.{filter}
use Rattle.std.specs.List.{AllByRecursion}
use Rattle.value_ops.specs.declared.scalar.Scalar.{Scalar}
use Rattle.value_ops.specs.declared.value.Value.{Value}
use Rattle.value_ops.specs.declared.value.Value.TheVariants as value
use Rattle.value_ops.specs.Entries.{keys_of}
use Rattle.rate_expr.specs.Words.{Word}
use Rattle.query_model.specs.Denotation.{AreEntries}
use Rattle.query_model.proofs.Keys.{entry_keys}
use Rattle.key_shards.specs.Merging.{StandInOrder}
use Rattle.key_shards.specs.Shares.{Entries, entries_of}

-- the entries of some of the keys
pub parted : (D : List ℕ → Value → Type 0) (theirs : List ℕ → Bool) (keys : List (List ℕ))
    (entries : Entries) → AreEntries D keys entries
    → AreEntries D (filter theirs keys) (entries_of theirs entries)
parted D theirs [] entries are = ap (entries_of theirs) are
parted D theirs (key ∷ keys) entries are =
    elim are [
      | inl (scalar, others, gives, rest, whole) ↦
          subst (λ es. AreEntries D (filter theirs (key ∷ keys)) (entries_of theirs es)) (sym whole)
          (some scalar others gives (parted D theirs keys others rest) (theirs key))
      | inr (nothing, rest) ↦ none nothing (parted D theirs keys entries rest) (theirs key)
    ]
  where
    some : (scalar : Scalar) (others : Entries) → D key (value.Scalar scalar)
        → AreEntries D (filter theirs keys) (entries_of theirs others) → (b : Bool)
        → AreEntries D (cond b (key ∷ filter theirs keys) (filter theirs keys))
        (cond b ((key, scalar) ∷ entries_of theirs others) (entries_of theirs others))
    some scalar others gives rest true =
        inl (scalar, entries_of theirs others, gives, rest, refl)
    some scalar others gives rest false = rest

    none : ((v : Value) → D key v → ⊥)
        → AreEntries D (filter theirs keys) (entries_of theirs entries) → (b : Bool)
        → AreEntries D (cond b (key ∷ filter theirs keys) (filter theirs keys))
        (entries_of theirs entries)
    none nothing rest true = inr (nothing, rest)
    none nothing rest false = rest

-- what a query has for keys that have a word each
abbrev pub OnWords : (Word → Value → Type 0) → (List ℕ → Word) → List ℕ → Value → Type 0
OnWords D word_of key v = D (word_of key) v

-- where the words of these keys are the same elsewhere, their entries are too
pub moved : (D : Word → Value → Type 0) (one other : List ℕ → Word) (theirs : List ℕ → Bool)
    → ((key : List ℕ) → theirs key ≡ true → one key ≡ other key) → (keys : List (List ℕ))
    (entries : Entries) → AreEntries (OnWords D one) (filter theirs keys) entries
    → AreEntries (OnWords D other) (filter theirs keys) entries
moved D one other theirs same [] entries are = are
moved D one other theirs same (key ∷ keys) entries are =
    by (theirs key) refl (moved D one other theirs same keys) are
  where
    by : (b : Bool) → theirs key ≡ b
        → ((es : Entries) → AreEntries (OnWords D one) (filter theirs keys) es
        → AreEntries (OnWords D other) (filter theirs keys) es)
        → AreEntries (OnWords D one) (cond b (key ∷ filter theirs keys) (filter theirs keys))
        entries
        → AreEntries (OnWords D other) (cond b (key ∷ filter theirs keys) (filter theirs keys))
        entries
    by true is more given =
        elim given [
          | inl (scalar, others, gives, rest, whole) ↦ inl (
            scalar,
            others,
            subst (λ word. D word (value.Scalar scalar)) (same key is) gives,
            more others rest,
            whole,
          )
          | inr (nothing, rest) ↦ inr (
            λ v den. nothing v (subst (λ word. D word v) (sym (same key is)) den),
            more entries rest,
          )
        ]
    by false is more given = more entries given

-- what holds of all holds of those that a test keeps
pub all_kept : (P : List ℕ → Type 0) (theirs : List ℕ → Bool) (keys : List (List ℕ))
    → AllByRecursion P keys → AllByRecursion P (filter theirs keys)
all_kept P theirs [] all = tt
all_kept P theirs (key ∷ keys) all = by (theirs key) (all_kept P theirs keys all.1)
  where
    by : (b : Bool) → AllByRecursion P (filter theirs keys)
        → AllByRecursion P (cond b (key ∷ filter theirs keys) (filter theirs keys))
    by true rest = (all.0, rest)
    by false rest = rest

pub all_of_theirs : (P : List ℕ → Type 0) (theirs : List ℕ → Bool) (entries : Entries)
    → AllByRecursion P (keys_of entries) → AllByRecursion P (keys_of (entries_of theirs entries))
all_of_theirs P theirs [] all = tt
all_of_theirs P theirs (entry ∷ entries) all =
    by (theirs entry.0) (all_of_theirs P theirs entries all.1)
  where
    by : (b : Bool) → AllByRecursion P (keys_of (entries_of theirs entries))
        → AllByRecursion P (keys_of (cond b (entry ∷ entries_of theirs entries)
        (entries_of theirs entries)))
    by true rest = (all.0, rest)
    by false rest = rest

-- entries of keys that stand in order do so too
pub entries_stand : (stand : List ℕ → ℕ) (D : List ℕ → Value → Type 0) (keys : List (List ℕ))
    (entries : Entries) → StandInOrder stand keys → AreEntries D keys entries
    → StandInOrder stand (keys_of entries)
entries_stand stand D [] entries order are =
    subst (λ es. StandInOrder stand (keys_of es)) (sym are) tt
entries_stand stand D (key ∷ keys) entries order are =
    elim are [
      | inl (scalar, others, gives, rest, whole) ↦
          subst (λ es. StandInOrder stand (keys_of es)) (sym whole) (
            entry_keys (λ other. stand key < stand other) D keys others order.0 rest,
            entries_stand stand D keys others order.1 rest,
          )
      | inr (nothing, rest) ↦ entries_stand stand D keys entries order.1 rest
    ]
