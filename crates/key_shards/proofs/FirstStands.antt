-- The keys of a word stand in the order of their first items.
use Rattle.std.proofs.Common.{arith, ◌≡◌, ◌∙◌, ◌<◌, ◌+◌, ◌&&◌, ◌||◌, ◌↔◌, ℕ, Bool, true, false, not}
use Rattle.std.proofs.Common.{cond, List, [], ◌∷◌, ◌++◌, length, refl, sym, ap, subst}
use Rattle.std.specs.List.{AllByRecursion, Contains, list_any}
use Rattle.std.specs.Str.{bytes_eq}
use Rattle.std.proofs.lemmas.Bool.{false≢true, or_parts}
use Rattle.std.proofs.lemmas.Cmp.{nat_list_eq_equiv}
use Rattle.std.proofs.lemmas.List.Folds.{list_any-append}
use Rattle.std.proofs.lemmas.Map.Views.{Contains-from_any, list_any-from_Contains}
use Rattle.std.proofs.lemmas.Slice.Eq.{bytes_eq-Decides}
use Rattle.value_ops.specs.declared.field.Field.{Field}
use Rattle.predicates.specs.Truth.{holds}
use Rattle.rate_expr.specs.Words.{Word}
use Rattle.query_model.specs.Denotation.{keys_after, with_key}
use Rattle.query_model.specs.Keys.{key_of}
use Rattle.key_shards.specs.Collections.{Collection}
use Rattle.key_shards.specs.Merging.{StandInOrder, first_stand}

module _ (stand : List ℕ → ℕ) where
  -- one more key, which stands after all others
  order_push : (n : ℕ) (keys : List (List ℕ)) (key : List ℕ) → stand key ≡ n
      → AllByRecursion (λ other. stand other < n) keys → StandInOrder stand keys
      → StandInOrder stand (keys ++ key ∷ [])
  order_push n [] key is below order = (tt, tt)
  order_push n (first ∷ keys) key is below order =
      (more keys below.0 order.0, order_push n keys key is below.1 order.1)
    where
      more : (ks : List (List ℕ)) → stand first < n
          → AllByRecursion (λ other. stand first < stand other) ks
          → AllByRecursion (λ other. stand first < stand other) (ks ++ key ∷ [])
      more [] less all = (subst (λ m. stand first < m) (sym is) less, tt)
      more (k ∷ ks) less all = (all.0, more ks less all.1)

  below_push : (n : ℕ) (keys : List (List ℕ)) (key : List ℕ) → stand key ≡ n
      → AllByRecursion (λ other. stand other < n) keys
      → AllByRecursion (λ other. stand other < n + 1) (keys ++ key ∷ [])
  below_push n [] key is below = (omega (arith, is), tt)
  below_push n (first ∷ keys) key is below =
      (let less = below.0 in omega (arith, less), below_push n keys key is below.1)

  below_more : (n : ℕ) (keys : List (List ℕ)) → AllByRecursion (λ other. stand other < n) keys
      → AllByRecursion (λ other. stand other < n + 1) keys
  below_more n [] below = tt
  below_more n (first ∷ keys) below =
      (let less = below.0 in omega (arith, less), below_more n keys below.1)

-- a key that is not among keys with one more is none of these, nor this one
neither : (key : List ℕ) (keys : List (List ℕ)) (last : List ℕ)
    → list_any (bytes_eq key) (keys ++ last ∷ []) ≡ false
    → (list_any (bytes_eq key) keys ≡ false) × (bytes_eq key last ≡ false)
neither key keys last new =
    let both = or_parts (list_any (bytes_eq key) keys) (bytes_eq key last || false)
    (sym (list_any-append (bytes_eq key) keys (last ∷ [])) ∙ new) in
    (both.0, (or_parts (bytes_eq key last) false both.1).0)

module _ (given : Collection) (stand : List ℕ → ℕ) where
  -- keys that stand in order before an item, and where the others stand
  pub record AreBehind (keys : List (List ℕ)) (n : ℕ) (word : Word) : Type 0 where
    pub order : StandInOrder stand keys
    pub below : AllByRecursion (λ key. stand key < n) keys
    pub beyond : (key : List ℕ) → list_any (bytes_eq key) keys ≡ false
        → stand key ≡ n + first_stand given word key

  module _ (keys : List (List ℕ)) (n : ℕ) (item : List Field) (word : Word)
      (behind : AreBehind keys n (item ∷ word)) where
    -- the item is not the first of this key
    elsewhere : (key : List ℕ)
        → (not (holds given.sync item) && bytes_eq (key_of given.chosen item) key) ≡ false
        → list_any (bytes_eq key) keys ≡ false
        → stand key ≡ (n + 1) + first_stand given word key
    elsewhere key not_here new =
        let is : stand key ≡ n + (first_stand given word key + 1) =
        behind.beyond key new
        ∙ ap (λ (b : Bool). n + cond b 0 (first_stand given word key + 1)) not_here in
        omega (arith, is)

    -- it is the first of its own, if this is a new one
    right_here : holds given.sync item ≡ false
        → list_any (bytes_eq (key_of given.chosen item)) keys ≡ false
        → stand (key_of given.chosen item) ≡ n
    right_here meets new =
        let key = key_of given.chosen item in
        let same : (not (holds given.sync item) && bytes_eq key key) ≡ true =
        ap (λ (b : Bool). not b && bytes_eq key key) meets ∙ nat_list_eq_equiv.refl key in
        let at : stand key ≡ n + 0 =
        behind.beyond key new
        ∙ ap (λ (b : Bool). n + cond b 0 (first_stand given word key + 1)) same in
        omega (arith, at)

    not_its_own : (key : List ℕ) → bytes_eq key (key_of given.chosen item) ≡ false
        → (not (holds given.sync item) && bytes_eq (key_of given.chosen item) key) ≡ false
    not_its_own key apart = by (not (holds given.sync item))
      where
        by : (b : Bool) → (b && bytes_eq (key_of given.chosen item) key) ≡ false
        by true = nat_list_eq_equiv.symm (key_of given.chosen item) key ∙ apart
        by false = refl

    -- a new key is not one that was seen
    apart_from : (key : List ℕ) → list_any (bytes_eq key) keys ≡ false
        → list_any (bytes_eq (key_of given.chosen item)) keys ≡ true
        → bytes_eq key (key_of given.chosen item) ≡ false
    apart_from key new seen = by (bytes_eq key (key_of given.chosen item)) refl
      where
        by : (b : Bool) → bytes_eq key (key_of given.chosen item) ≡ b → b ≡ false
        by true same =
            absurd (false≢true (sym new ∙ ap (λ k. list_any (bytes_eq k) keys)
            ((bytes_eq-Decides key (key_of given.chosen item)).0 same) ∙ seen))
        by false same = refl

    pub behind_more : AreBehind
        (cond (holds given.sync item) keys (with_key keys (key_of given.chosen item))) (n + 1) word
    behind_more = by (holds given.sync item) refl
        (list_any (bytes_eq (key_of given.chosen item)) keys) refl
      where
        by : (b : Bool) → holds given.sync item ≡ b → (c : Bool)
            → list_any (bytes_eq (key_of given.chosen item)) keys ≡ c
            → AreBehind (cond b keys (cond c keys (keys ++ key_of given.chosen item ∷ [])))
            (n + 1) word
        by true meets c seen = record {
          order = behind.order;
          below = below_more stand n keys behind.below;
          beyond = λ key new. elsewhere key (ap (λ (b : Bool).
              not b && bytes_eq (key_of given.chosen item) key) meets) new;
        }
        by false meets true seen = record {
          order = behind.order;
          below = below_more stand n keys behind.below;
          beyond = λ key new. elsewhere key (not_its_own key (apart_from key new seen)) new;
        }
        by false meets false unseen = record {
          order = order_push stand n keys (key_of given.chosen item) (right_here meets unseen)
              behind.below behind.order;
          below = below_push stand n keys (key_of given.chosen item) (right_here meets unseen)
              behind.below;
          beyond = λ key new.
              let both = neither key keys (key_of given.chosen item) new in
              elsewhere key (not_its_own key both.1) both.0;
        }

  behind_all : (word : Word) (keys : List (List ℕ)) (n : ℕ) → AreBehind keys n word
      → AreBehind (keys_after given.chosen given.sync keys word) (n + length word) []
  behind_all [] keys n behind = subst (λ m. AreBehind keys m []) (omega arith) behind
  behind_all (item ∷ word) keys n behind =
      subst (λ m. AreBehind (keys_after given.chosen given.sync keys (item ∷ word)) m [])
      (omega arith)
      (behind_all word _ (n + 1) (behind_more keys n item word behind))

module _ (given : Collection) (word : Word) where
  all_behind : AreBehind given (first_stand given word)
      (keys_after given.chosen given.sync [] word) (0 + length word) []
  all_behind = behind_all given (first_stand given word) word [] 0
      (record { order = tt; below = tt; beyond = λ key new. omega arith })

  pub keys_stand : StandInOrder (first_stand given word)
      (keys_after given.chosen given.sync [] word)
  keys_stand = all_behind.order

  stands_inside : (keys : List (List ℕ)) (key : List ℕ)
      → AllByRecursion (λ other. first_stand given word other < 0 + length word) keys
      → list_any (bytes_eq key) keys ≡ true → first_stand given word key < length word
  stands_inside [] key below among = absurd (false≢true among)
  stands_inside (other ∷ keys) key below among =
      by (bytes_eq key other) refl (stands_inside keys key below.1) among
    where
      by : (b : Bool) → bytes_eq key other ≡ b
          → (list_any (bytes_eq key) keys ≡ true → first_stand given word key < length word)
          → (b || list_any (bytes_eq key) keys) ≡ true
          → first_stand given word key < length word
      by true same rest is =
          let less = subst (λ k. first_stand given word k < 0 + length word)
          (sym ((bytes_eq-Decides key other).0 same)) below.0 in omega (arith, less)
      by false same rest is = rest is

  pub keys_found : (key : List ℕ) → Contains (keys_after given.chosen given.sync [] word) key
      ↔ (first_stand given word key < length word)
  keys_found key = (
    λ there. stands_inside (keys_after given.chosen given.sync [] word) key all_behind.below
        (list_any-from_Contains {eq = bytes_eq} nat_list_eq_equiv key
        (keys_after given.chosen given.sync [] word) there),
    λ less. by less (list_any (bytes_eq key) (keys_after given.chosen given.sync [] word)) refl,
  )
    where
      by : first_stand given word key < length word → (b : Bool)
          → list_any (bytes_eq key) (keys_after given.chosen given.sync [] word) ≡ b
          → Contains (keys_after given.chosen given.sync [] word) key
      by less true is = Contains-from_any {eq = bytes_eq} (λ x y. (bytes_eq-Decides x y).0) key
          (keys_after given.chosen given.sync [] word) is
      by less false is =
          let at : first_stand given word key ≡ (0 + length word) + 0 = all_behind.beyond key is in
          let never : ⊥ = omega (arith, at, less) in absurd never
