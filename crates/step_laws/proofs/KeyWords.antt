-- What a word has for all keys and for each, where one more item goes by.
use Rattle.std.proofs.Common.{◌≡◌, ◌∙◌, ◌||◌, ℕ, Bool, true, false, cond, List, [], ◌∷◌, ◌++◌, refl}
use Rattle.std.proofs.Common.{sym, ap, subst, append-nil}
use Rattle.std.specs.Prelude.{filter}
use Rattle.std.specs.List.{list_any, Contains}
use Rattle.std.specs.Str.{bytes_eq}
use Rattle.std.proofs.lemmas.Cmp.{nat_list_eq_equiv}
use Rattle.std.proofs.lemmas.List.Elements.{Contains-append_left, Contains-push, filter-append}
use Rattle.std.proofs.lemmas.Map.Views.{Contains-from_any, list_any-from_Contains}
use Rattle.std.proofs.lemmas.Slice.Eq.{bytes_eq-Decides}
use Rattle.value_ops.specs.declared.field.Field.{Field}
use Rattle.predicates.specs.Predicates.{Predicate}
use Rattle.predicates.specs.Truth.{holds}
use Rattle.rate_expr.specs.Words.{Word}
use Rattle.query_model.specs.Denotation.{keys_after, projection, with_key}
use Rattle.query_model.specs.Keys.{key_of}
use Rattle.map_collect.proofs.Names.{none_among}

-- one more item that is kept, or is not
pub kept_more : (test : List Field → Bool) (word : Word) (item : List Field) → test item ≡ true
    → filter test (word ++ item ∷ []) ≡ filter test word ++ item ∷ []
kept_more test word item is =
    filter-append test word (item ∷ [])
    ∙ ap (λ (b : Bool). filter test word ++ cond b (item ∷ []) []) is

pub passed_over : (test : List Field → Bool) (word : Word) (item : List Field) → test item ≡ false
    → filter test (word ++ item ∷ []) ≡ filter test word
passed_over test word item is =
    filter-append test word (item ∷ [])
    ∙ ap (λ (b : Bool). filter test word ++ cond b (item ∷ []) []) is
    ∙ append-nil (filter test word)

module _ (chosen : List ℕ) (sync : Predicate) where
  -- the item is one of the key or of all keys
  abbrev pub is_of : List ℕ → List Field → Bool
  is_of key item = holds sync item || bytes_eq (key_of chosen item) key

  pub of_all : (key : List ℕ) (item : List Field) → holds sync item ≡ true → is_of key item ≡ true
  of_all key item is = ap (λ (b : Bool). b || bytes_eq (key_of chosen item) key) is

  pub of_key : (key : List ℕ) (item : List Field) → holds sync item ≡ false
      → key_of chosen item ≡ key → is_of key item ≡ true
  of_key key item is same =
      ap (λ (b : Bool). b || bytes_eq (key_of chosen item) key) is
      ∙ (bytes_eq-Decides (key_of chosen item) key).1 same

  unequal : (b : Bool) → (b ≡ true → ⊥) → b ≡ false
  unequal true never = absurd (never refl)
  unequal false never = refl

  pub of_other : (key : List ℕ) (item : List Field) → holds sync item ≡ false
      → (key_of chosen item ≡ key → ⊥) → is_of key item ≡ false
  of_other key item is differs =
      ap (λ (b : Bool). b || bytes_eq (key_of chosen item) key) is
      ∙ unequal (bytes_eq (key_of chosen item) key)
      (λ same. differs ((bytes_eq-Decides (key_of chosen item) key).0 same))

  -- the keys after one more item
  abbrev pub keys_and : List (List ℕ) → List Field → List (List ℕ)
  keys_and keys item = cond (holds sync item) keys (with_key keys (key_of chosen item))

  keys_one_more : (keys : List (List ℕ)) (word : Word) (item : List Field)
      → keys_after chosen sync keys (word ++ item ∷ [])
      ≡ keys_and (keys_after chosen sync keys word) item
  keys_one_more keys [] item = refl
  keys_one_more keys (first ∷ word) item = keys_one_more (keys_and keys first) word item

  pub keys_of_all : (word : Word) (item : List Field) → holds sync item ≡ true
      → keys_after chosen sync [] (word ++ item ∷ []) ≡ keys_after chosen sync [] word
  keys_of_all word item is =
      let keys = keys_after chosen sync [] word in
      keys_one_more [] word item
      ∙ ap (λ (b : Bool). cond b keys (with_key keys (key_of chosen item))) is

  -- a key that is there already, and a new one
  pub with_old : (keys : List (List ℕ)) (key : List ℕ) → Contains keys key
      → with_key keys key ≡ keys
  with_old keys key there =
      ap (λ (b : Bool). cond b keys (keys ++ key ∷ []))
      (list_any-from_Contains {eq = bytes_eq} nat_list_eq_equiv key keys there)

  pub with_new : (keys : List (List ℕ)) (key : List ℕ) → (Contains keys key → ⊥)
      → with_key keys key ≡ keys ++ key ∷ []
  with_new keys key fresh =
      ap (λ (b : Bool). cond b keys (keys ++ key ∷ [])) (none_among key keys fresh)

  pub keys_of_key : (word : Word) (item : List Field) → holds sync item ≡ false
      → keys_after chosen sync [] (word ++ item ∷ [])
      ≡ with_key (keys_after chosen sync [] word) (key_of chosen item)
  keys_of_key word item is =
      let keys = keys_after chosen sync [] word in
      keys_one_more [] word item
      ∙ ap (λ (b : Bool). cond b keys (with_key keys (key_of chosen item))) is

  -- keys stay
  stays_with : (keys : List (List ℕ)) (other key : List ℕ) → Contains keys key
      → Contains (with_key keys other) key
  stays_with keys other key there = by (list_any (bytes_eq other) keys)
    where
      by : (b : Bool) → Contains (cond b keys (keys ++ other ∷ [])) key
      by true = there
      by false = Contains-append_left keys (other ∷ []) key there

  is_with : (keys : List (List ℕ)) (key : List ℕ) → Contains (with_key keys key) key
  is_with keys key = by (list_any (bytes_eq key) keys) refl
    where
      by : (b : Bool) → list_any (bytes_eq key) keys ≡ b
          → Contains (cond b keys (keys ++ key ∷ [])) key
      by true is = Contains-from_any {eq = bytes_eq} (λ x y. (bytes_eq-Decides x y).0) key keys is
      by false is = Contains-push keys key

  stays_and : (keys : List (List ℕ)) (item : List Field) (key : List ℕ) → Contains keys key
      → Contains (keys_and keys item) key
  stays_and keys item key there = by (holds sync item)
    where
      by : (b : Bool) → Contains (cond b keys (with_key keys (key_of chosen item))) key
      by true = there
      by false = stays_with keys (key_of chosen item) key there

  stays : (keys : List (List ℕ)) (word : Word) (key : List ℕ) → Contains keys key
      → Contains (keys_after chosen sync keys word) key
  stays keys [] key there = there
  stays keys (item ∷ word) key there =
      stays (keys_and keys item) word key (stays_and keys item key there)

  -- a word has nothing for a key that it has not, but what it has for all
  unseen : (key : List ℕ) (keys : List (List ℕ)) (word : Word)
      → (Contains (keys_after chosen sync keys word) key → ⊥)
      → projection chosen sync key word ≡ filter (holds sync) word
  unseen key keys [] fresh = refl
  unseen key keys (item ∷ word) fresh =
      by (holds sync item) refl (unseen key (keys_and keys item) word fresh)
    where
      there_now : holds sync item ≡ false → key_of chosen item ≡ key
          → Contains (keys_and keys item) key
      there_now is same =
          subst (λ (b : Bool). Contains (cond b keys (with_key keys (key_of chosen item))) key)
          (sym is)
          (subst (λ (k : List ℕ). Contains (with_key keys k) key) (sym same) (is_with keys key))

      by : (b : Bool) → holds sync item ≡ b
          → projection chosen sync key word ≡ filter (holds sync) word
          → cond (b || bytes_eq (key_of chosen item) key) (item ∷ projection chosen sync key word)
          (projection chosen sync key word)
          ≡ cond b (item ∷ filter (holds sync) word) (filter (holds sync) word)
      by true is rest = ap (λ (u : Word). item ∷ u) rest
      by false is rest =
          ap (λ (b : Bool). cond b (item ∷ projection chosen sync key word)
          (projection chosen sync key word))
          (unequal (bytes_eq (key_of chosen item) key)
          (λ same. fresh (stays (keys_and keys item) word key
          (there_now is ((bytes_eq-Decides (key_of chosen item) key).0 same)))))
          ∙ rest

  pub new_key : (key : List ℕ) (word : Word) → (Contains (keys_after chosen sync [] word) key → ⊥)
      → projection chosen sync key word ≡ filter (holds sync) word
  new_key key word fresh = unseen key [] word fresh
