-- The keys of a word: they are texts that differ, and so are those that have an entry.
use Rattle.std.proofs.Common.{◌≡◌, ℕ, ◌++◌, Bool, true, false, cond, List, [], ◌∷◌, refl, sym}
use Rattle.std.proofs.Common.{subst, inl, inr}
use Rattle.std.specs.Prelude.{All, filter}
use Rattle.std.proofs.lemmas.List.Elements.{All-cons, All-nil}
use Rattle.std.specs.List.{AllByRecursion, IsDistinct, list_any}
use Rattle.std.specs.Str.{bytes_eq}
use Rattle.std.proofs.lemmas.Cmp.{nat_list_eq_equiv}
use Rattle.std.proofs.lemmas.Map.Keys.{IsDistinct-push, IsDistinct-head, IsDistinct-tail}
use Rattle.std.proofs.lemmas.Map.Keys.{IsDistinct-cons}
use Rattle.value_ops.specs.declared.field.Field.{Field}
use Rattle.value_ops.specs.declared.scalar.Scalar.{Scalar}
use Rattle.value_ops.specs.declared.value.Value.{Value}
use Rattle.value_ops.specs.declared.value.Value.TheVariants as value
use Rattle.value_ops.specs.Entries.{keys_of, values_of}
use Rattle.value_ops.specs.Texts.{IsText}
use Rattle.item_schema.specs.declared.column.Column.{Column}
use Rattle.predicates.specs.Predicates.{Predicate}
use Rattle.predicates.specs.Truth.{holds}
use Rattle.rate_expr.specs.Words.{Word, IsWordOf}
use Rattle.query_model.specs.Denotation.{AreEntries, keys_after, with_key}
use Rattle.query_model.specs.Keys.{key_of}
use Rattle.query_model.proofs.KeyTexts.{key_is_text}

-- a part of a word that a test keeps is a word of the same items
pub kept_word : (columns : List Column) (test : List Field → Bool) (word : Word)
    → IsWordOf columns word → IsWordOf columns (filter test word)
kept_word columns test [] is = tt
kept_word columns test (item ∷ word) is = by (test item) (kept_word columns test word is.1)
  where
    by : (b : Bool) → IsWordOf columns (filter test word)
        → IsWordOf columns (cond b (item ∷ filter test word) (filter test word))
    by true rest = (is.0, rest)
    by false rest = rest

-- texts that differ
pub record AreKeys (keys : List (List ℕ)) : Type 0 where
  pub texts : AllByRecursion IsText keys
  pub distinct : IsDistinct bytes_eq keys

all_push : {A : Type 0} (P : A → Type 0) (xs : List A) (x : A) → AllByRecursion P xs → P x
    → AllByRecursion P (xs ++ x ∷ [])
all_push P [] x all one = (one, tt)
all_push P (y ∷ xs) x all one = (all.0, all_push P xs x all.1 one)

-- one more key
key_added : (keys : List (List ℕ)) (key : List ℕ) → AreKeys keys → IsText key
    → AreKeys (with_key keys key)
key_added keys key are text = by (list_any (bytes_eq key) keys) refl
  where
    by : (b : Bool) → list_any (bytes_eq key) keys ≡ b → AreKeys (cond b keys (keys ++ key ∷ []))
    by true seen = are
    by false new = record {
      texts = all_push IsText keys key are.texts text;
      distinct = IsDistinct-push nat_list_eq_equiv keys key are.distinct new;
    }

-- the keys of a word after others
keys_more : (columns : List Column) (chosen : List ℕ) (sync : Predicate) (word : Word)
    (keys : List (List ℕ)) → AreKeys keys → IsWordOf columns word
    → AreKeys (keys_after chosen sync keys word)
keys_more columns chosen sync [] keys are is = are
keys_more columns chosen sync (item ∷ word) keys are is =
    keys_more columns chosen sync word _ (by (holds sync item)) is.1
  where
    by : (b : Bool) → AreKeys (cond b keys (with_key keys (key_of chosen item)))
    by true = are
    by false = key_added keys (key_of chosen item) are (key_is_text columns item chosen is.0)

no_keys : AreKeys []
unfolding IsDistinct
no_keys = record { texts = tt; distinct = tt }

-- the keys of a word
pub keys_are : (columns : List Column) (chosen : List ℕ) (sync : Predicate) (word : Word)
    → IsWordOf columns word → AreKeys (keys_after chosen sync [] word)
keys_are columns chosen sync word is = keys_more columns chosen sync word [] no_keys is

-- what holds of all keys holds of those that have an entry
pub entry_keys : (P : List ℕ → Type 0) (D : List ℕ → Value → Type 0) (keys : List (List ℕ))
    (entries : List (List ℕ × Scalar)) → AllByRecursion P keys → AreEntries D keys entries
    → AllByRecursion P (keys_of entries)
entry_keys P D [] entries all are = subst (λ es. AllByRecursion P (keys_of es)) (sym are) tt
entry_keys P D (key ∷ keys) entries all are =
    elim are [
      | inl (scalar, others, gives, rest, whole) ↦
          subst (λ es. AllByRecursion P (keys_of es)) (sym whole)
          (all.0, entry_keys P D keys others all.1 rest)
      | inr (none, rest) ↦ entry_keys P D keys entries all.1 rest
    ]

-- and these differ
pub entry_keys_differ : (D : List ℕ → Value → Type 0) (keys : List (List ℕ))
    (entries : List (List ℕ × Scalar)) → IsDistinct bytes_eq keys → AreEntries D keys entries
    → IsDistinct bytes_eq (keys_of entries)
entry_keys_differ D [] entries distinct are =
    subst (λ es. IsDistinct bytes_eq (keys_of es)) (sym are) distinct
entry_keys_differ D (key ∷ keys) entries distinct are =
    elim are [
      | inl (scalar, others, gives, rest, whole) ↦
          subst (λ es. IsDistinct bytes_eq (keys_of es)) (sym whole)
          (IsDistinct-cons bytes_eq key (keys_of others)
          (entry_keys (λ other. bytes_eq key other ≡ false) D keys others
          (IsDistinct-head bytes_eq key keys distinct) rest)
          (entry_keys_differ D keys others (IsDistinct-tail bytes_eq key keys distinct) rest))
      | inr (none, rest) ↦ entry_keys_differ D keys entries
          (IsDistinct-tail bytes_eq key keys distinct) rest
    ]

-- what holds of all scalars that a key may have holds of those of the entries
pub entry_values : (P : Scalar → Type 0) (D : List ℕ → Value → Type 0) (keys : List (List ℕ))
    (entries : List (List ℕ × Scalar))
    → ((key : List ℕ) (scalar : Scalar) → D key (value.Scalar scalar) → P scalar)
    → AreEntries D keys entries → AllByRecursion P (values_of entries)
entry_values P D [] entries each are = subst (λ es. AllByRecursion P (values_of es)) (sym are) tt
entry_values P D (key ∷ keys) entries each are =
    elim are [
      | inl (scalar, others, gives, rest, whole) ↦
          subst (λ es. AllByRecursion P (values_of es)) (sym whole)
          (each key scalar gives, entry_values P D keys others each rest)
      | inr (none, rest) ↦ entry_values P D keys entries each rest
    ]

-- what holds of each element, by place
pub all_elements : {A : Type 0} (P : A → Type 0) (xs : List A) → AllByRecursion P xs → All P xs
all_elements P [] all = All-nil P
all_elements P (x ∷ xs) all = All-cons P x xs all.0 (all_elements P xs all.1)
