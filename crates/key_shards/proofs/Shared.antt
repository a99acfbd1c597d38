-- What a share has for its keys, and which keys it has.
use Rattle.std.proofs.Common.{append-nil, ◌≡◌, ◌∙◌, ◌||◌, ◌++◌, ℕ, Bool, true, false, cond}
use Rattle.std.proofs.Common.{List, [], ◌∷◌, refl, sym, ap}
use Rattle.std.specs.Prelude.{filter}
use Rattle.std.specs.List.{list_any}
use Rattle.std.specs.Str.{bytes_eq}
use Rattle.std.proofs.lemmas.Bool.{false≢true}
use Rattle.std.proofs.lemmas.List.Elements.{filter-append}
use Rattle.std.proofs.lemmas.Slice.Eq.{bytes_eq-Decides}
use Rattle.value_ops.specs.declared.field.Field.{Field}
use Rattle.predicates.specs.Truth.{holds}
use Rattle.rate_expr.specs.Words.{Word}
use Rattle.query_model.specs.Denotation.{keys_after, projection, with_key}
use Rattle.query_model.specs.Keys.{key_of}
use Rattle.key_shards.specs.Collections.{Collection}
use Rattle.key_shards.specs.Shares.{share}

-- a test keeps the same of what a wider test has kept
filter_within : {A : Type 0} (narrow wide : A → Bool)
    → ((x : A) → narrow x ≡ true → wide x ≡ true) → (xs : List A)
    → filter narrow (filter wide xs) ≡ filter narrow xs
filter_within narrow wide wider [] = refl
filter_within {A} narrow wide wider (x ∷ xs) =
    by (narrow x) (wide x) refl refl (filter_within narrow wide wider xs)
  where
    by : (n w : Bool) → narrow x ≡ n → wide x ≡ w
        → filter narrow (filter wide xs) ≡ filter narrow xs
        → filter narrow (cond w (x ∷ filter wide xs) (filter wide xs))
        ≡ cond n (x ∷ filter narrow xs) (filter narrow xs)
    by true true passes kept same =
        ap (λ (b : Bool). cond b (x ∷ filter narrow (filter wide xs))
        (filter narrow (filter wide xs))) passes
        ∙ ap (λ (ys : List A). x ∷ ys) same
    by true false passes kept same = absurd (false≢true (sym kept ∙ wider x passes))
    by false true passes kept same =
        ap (λ (b : Bool). cond b (x ∷ filter narrow (filter wide xs))
        (filter narrow (filter wide xs))) passes
        ∙ same
    by false false passes kept same = same

module _ (given : Collection) (theirs : List ℕ → Bool) where
  -- one of their keys has the items in the share that it has in the word
  pub projection_stays : (key : List ℕ) (word : Word) → theirs key ≡ true
      → projection given.chosen given.sync key (share given theirs word)
      ≡ projection given.chosen given.sync key word
  projection_stays key word is_theirs =
      filter_within (λ (item : List Field).
      holds given.sync item || bytes_eq (key_of given.chosen item) key)
      (λ (item : List Field). holds given.sync item || theirs (key_of given.chosen item))
      (λ item. by item (holds given.sync item)) word
    where
      by : (item : List Field) (meets : Bool)
          → (meets || bytes_eq (key_of given.chosen item) key) ≡ true
          → (meets || theirs (key_of given.chosen item)) ≡ true
      by item true is = refl
      by item false is =
          ap theirs ((bytes_eq-Decides (key_of given.chosen item) key).0 is) ∙ is_theirs

  -- one of their keys is among others where it is among theirs
  among_theirs : (key : List ℕ) (keys : List (List ℕ)) → theirs key ≡ true
      → list_any (bytes_eq key) (filter theirs keys) ≡ list_any (bytes_eq key) keys
  among_theirs key [] is_theirs = refl
  among_theirs key (other ∷ keys) is_theirs =
      by (theirs other) refl (bytes_eq key other) refl (among_theirs key keys is_theirs)
    where
      by : (b : Bool) → theirs other ≡ b → (e : Bool) → bytes_eq key other ≡ e
          → list_any (bytes_eq key) (filter theirs keys) ≡ list_any (bytes_eq key) keys
          → list_any (bytes_eq key) (cond b (other ∷ filter theirs keys) (filter theirs keys))
          ≡ (e || list_any (bytes_eq key) keys)
      by true is e equal rest =
          ap (λ (t : Bool). t || list_any (bytes_eq key) (filter theirs keys)) equal
          ∙ ap (λ (t : Bool). e || t) rest
      by false is true equal rest =
          absurd (false≢true (sym is ∙ ap theirs (sym ((bytes_eq-Decides key other).0 equal))
          ∙ is_theirs))
      by false is false equal rest = rest

  -- one more key, which is one of theirs or is not
  with_theirs : (keys : List (List ℕ)) (key : List ℕ) → theirs key ≡ true
      → with_key (filter theirs keys) key ≡ filter theirs (with_key keys key)
  with_theirs keys key is_theirs =
      ap (λ (b : Bool). cond b (filter theirs keys) (filter theirs keys ++ key ∷ []))
      (among_theirs key keys is_theirs)
      ∙ by (list_any (bytes_eq key) keys)
    where
      by : (b : Bool) → cond b (filter theirs keys) (filter theirs keys ++ key ∷ [])
          ≡ filter theirs (cond b keys (keys ++ key ∷ []))
      by true = refl
      by false = sym (filter-append theirs keys (key ∷ [])
          ∙ ap (λ (b : Bool). filter theirs keys ++ cond b (key ∷ []) []) is_theirs)

  with_another : (keys : List (List ℕ)) (key : List ℕ) → theirs key ≡ false
      → filter theirs keys ≡ filter theirs (with_key keys key)
  with_another keys key is_another = by (list_any (bytes_eq key) keys)
    where
      by : (b : Bool) → filter theirs keys ≡ filter theirs (cond b keys (keys ++ key ∷ []))
      by true = refl
      by false = sym (filter-append theirs keys (key ∷ [])
          ∙ ap (λ (b : Bool). filter theirs keys ++ cond b (key ∷ []) []) is_another
          ∙ append-nil (filter theirs keys))

  -- the keys of the word that are theirs, after others
  keys_more : (word : Word) (keys : List (List ℕ))
      → keys_after given.chosen given.sync (filter theirs keys) (share given theirs word)
      ≡ filter theirs (keys_after given.chosen given.sync keys word)
  keys_more [] keys = refl
  keys_more (item ∷ word) keys =
      by (holds given.sync item) (theirs (key_of given.chosen item)) refl refl (keys_more word)
    where
      by : (meets mine : Bool) → holds given.sync item ≡ meets
          → theirs (key_of given.chosen item) ≡ mine
          → ((ks : List (List ℕ))
          → keys_after given.chosen given.sync (filter theirs ks) (share given theirs word)
          ≡ filter theirs (keys_after given.chosen given.sync ks word))
          → keys_after given.chosen given.sync (filter theirs keys)
          (cond (meets || mine) (item ∷ share given theirs word) (share given theirs word))
          ≡ filter theirs (keys_after given.chosen given.sync
          (cond meets keys (with_key keys (key_of given.chosen item))) word)
      by true mine is goes rest =
          ap (λ (b : Bool). keys_after given.chosen given.sync (cond b (filter theirs keys)
          (with_key (filter theirs keys) (key_of given.chosen item))) (share given theirs word)) is
          ∙ rest keys
      by false true is goes rest =
          ap (λ (b : Bool). keys_after given.chosen given.sync (cond b (filter theirs keys)
          (with_key (filter theirs keys) (key_of given.chosen item))) (share given theirs word)) is
          ∙ ap (λ ks. keys_after given.chosen given.sync ks (share given theirs word))
          (with_theirs keys (key_of given.chosen item) goes)
          ∙ rest (with_key keys (key_of given.chosen item))
      by false false is goes rest =
          ap (λ ks. keys_after given.chosen given.sync ks (share given theirs word))
          (with_another keys (key_of given.chosen item) goes)
          ∙ rest (with_key keys (key_of given.chosen item))

  pub keys_stay : (word : Word)
      → keys_after given.chosen given.sync [] (share given theirs word)
      ≡ filter theirs (keys_after given.chosen given.sync [] word)
  keys_stay word = keys_more word []
