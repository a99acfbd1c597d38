-- The keys of a word differ, and each is one that the collect has met.
use Rattle.std.proofs.Common.{◌≡◌, ◌≤◌, ◌∙◌, ℕ, Bool, true, false, cond, ◌&&◌, List, [], ◌∷◌, ◌++◌}
use Rattle.std.proofs.Common.{length, map, refl, sym, ap, arith, ◌⊎◌, inl, inr}
use Rattle.std.specs.List.{AllByRecursion, IsDistinct, list_any}
use Rattle.std.specs.Set.{is_member}
use Rattle.std.specs.Str.{bytes_eq}
use Rattle.std.proofs.lemmas.Bool.{true≢false}
use Rattle.std.proofs.lemmas.Cmp.{nat_list_eq_equiv}
use Rattle.std.proofs.lemmas.List.{length-map}
use Rattle.std.proofs.lemmas.List.Elements.{Contains-append_left}
use Rattle.std.proofs.lemmas.List.Folds.{list_any-append}
use Rattle.std.proofs.lemmas.Map.Keys.{IsDistinct-cons, IsDistinct-head, IsDistinct-push}
use Rattle.std.proofs.lemmas.Map.Keys.{IsDistinct-tail}
use Rattle.value_ops.specs.declared.field.Field.{Field}
use Rattle.value_ops.specs.declared.scalar.Scalar.{Scalar}
use Rattle.value_ops.specs.declared.value.Value.{Value}
use Rattle.predicates.specs.Predicates.{Predicate}
use Rattle.predicates.specs.Truth.{holds}
use Rattle.rate_expr.specs.Rates as rates
use Rattle.rate_expr.specs.Words.{Word}
use Rattle.query_model.specs.Denotation.{AreEntries, keys_after, with_key}
use Rattle.query_model.specs.Keys.{key_of}
use Rattle.query_model.specs.Queries.{Qre, collect}
use Rattle.memory_bound.specs.KeysMet.{Key, is_same, key_columns, keys_among, keys_met}
use Rattle.memory_bound.proofs.Growth.{IsMet, first_member, later_member, met_among}
use Rattle.memory_bound.proofs.KeysOnce.{count_few, either, or_first, or_second, same_keys}

-- one more key differs from the others
key_differs : (keys : List (List ℕ)) (key : List ℕ) → IsDistinct bytes_eq keys
    → IsDistinct bytes_eq (with_key keys key)
key_differs keys key differ = by (list_any (bytes_eq key) keys) refl
  where
    by : (b : Bool) → list_any (bytes_eq key) keys ≡ b
        → IsDistinct bytes_eq (cond b keys (keys ++ key ∷ []))
    by true seen = differ
    by false new = IsDistinct-push nat_list_eq_equiv keys key differ new

keys_differ : (chosen : List ℕ) (sync : Predicate) (word : Word) (keys : List (List ℕ))
    → IsDistinct bytes_eq keys → IsDistinct bytes_eq (keys_after chosen sync keys word)
keys_differ chosen sync [] keys differ = differ
keys_differ chosen sync (item ∷ word) keys differ =
    keys_differ chosen sync word _ (by (holds sync item))
  where
    by : (b : Bool) → IsDistinct bytes_eq (cond b keys (with_key keys (key_of chosen item)))
    by true = differ
    by false = key_differs keys (key_of chosen item) differ

none_differ : IsDistinct bytes_eq []
unfolding IsDistinct
none_differ = tt

-- the text is the key of one of the items
record IsText (chosen : List ℕ) (word : Word) (text : List ℕ) : Type 0 where
  is_met : IsMet (chosen ∷ []) word (record { columns = chosen; text = text })

-- a key is one of those before, or one of the word
with_cases : (keys : List (List ℕ)) (key text : List ℕ)
    → list_any (bytes_eq text) (with_key keys key) ≡ true
    → (list_any (bytes_eq text) keys ≡ true) ⊎ (bytes_eq text key ≡ true)
with_cases keys key text there = by (list_any (bytes_eq key) keys) there
  where
    by : (b : Bool) → list_any (bytes_eq text) (cond b keys (keys ++ key ∷ [])) ≡ true
        → (list_any (bytes_eq text) keys ≡ true) ⊎ (bytes_eq text key ≡ true)
    by true there = inl there
    by false there =
        elim (either (list_any (bytes_eq text) keys) (list_any (bytes_eq text) (key ∷ []))
        (sym (list_any-append (bytes_eq text) keys (key ∷ [])) ∙ there)) [
          | inl old ↦ inl old
          | inr last ↦ elim (either (bytes_eq text key) false last) [
            | inl same ↦ inr same
            | inr wrong ↦ absurd (true≢false (sym wrong))
          ]
        ]

-- the same columns and an equal text
same_key : (chosen : List ℕ) (text other : List ℕ) → bytes_eq text other ≡ true
    → is_same (record { columns = chosen; text = text }) (record { columns = chosen; text = other })
    ≡ true
same_key chosen text other same =
    ap (λ b. b && bytes_eq text other) (nat_list_eq_equiv.refl chosen) ∙ same

text_later : (chosen : List ℕ) (item : List Field) (word : Word) (text : List ℕ)
    → IsText chosen word text → IsText chosen (item ∷ word) text
text_later chosen item word text is = record {
  is_met = record {
    chosen = is.is_met.chosen;
    item = is.is_met.item;
    in_columns = is.is_met.in_columns;
    in_word = later_member item is.is_met.item word is.is_met.in_word;
    same = is.is_met.same;
  };
}

text_cases : (chosen : List ℕ) (sync : Predicate) (word : Word) (keys : List (List ℕ))
    (text : List ℕ)
    → list_any (bytes_eq text) (keys_after chosen sync keys word) ≡ true
    → (list_any (bytes_eq text) keys ≡ true) ⊎ IsText chosen word text
text_cases chosen sync [] keys text there = inl there
text_cases chosen sync (item ∷ word) keys text there =
    elim (text_cases chosen sync word _ text there) [
      | inl before ↦ by (holds sync item) before
      | inr later ↦ inr (text_later chosen item word text later)
    ]
  where
    by : (b : Bool)
        → list_any (bytes_eq text) (cond b keys (with_key keys (key_of chosen item))) ≡ true
        → (list_any (bytes_eq text) keys ≡ true) ⊎ IsText chosen (item ∷ word) text
    by true before = inl before
    by false before = elim (with_cases keys (key_of chosen item) text before) [
      | inl old ↦ inl old
      | inr same ↦ inr (record {
        is_met = record {
          chosen = chosen;
          item = item;
          in_columns = first_member chosen [];
          in_word = first_member item word;
          same = same_key chosen text (key_of chosen item) same;
        };
      })
    ]

-- texts as keys for some columns
abbrev key_at : List ℕ → List ℕ → Key
key_at chosen text = record { columns = chosen; text = text }

abbrev keys_at : List ℕ → List (List ℕ) → List Key
keys_at chosen texts = map (key_at chosen) texts

apart_at : (chosen : List ℕ) (text : List ℕ) (texts : List (List ℕ))
    → AllByRecursion (λ other. bytes_eq text other ≡ false) texts
    → AllByRecursion (λ other. is_same (record { columns = chosen; text = text }) other ≡ false)
    (keys_at chosen texts)
apart_at chosen text [] all = tt
apart_at chosen text (other ∷ texts) all = (
  ap (λ b. b && bytes_eq text other) (nat_list_eq_equiv.refl chosen) ∙ all.0,
  apart_at chosen text texts all.1,
)

no_keys_differ : IsDistinct is_same []
unfolding IsDistinct
no_keys_differ = tt

differ_at : (chosen : List ℕ) (texts : List (List ℕ)) → IsDistinct bytes_eq texts
    → IsDistinct is_same (keys_at chosen texts)
differ_at chosen [] differ = no_keys_differ
differ_at chosen (text ∷ texts) differ =
    IsDistinct-cons is_same (record { columns = chosen; text = text }) (keys_at chosen texts)
    (apart_at chosen text texts (IsDistinct-head bytes_eq text texts differ))
    (differ_at chosen texts (IsDistinct-tail bytes_eq text texts differ))

-- what is one of these is for the columns, with one of the texts
text_at : (chosen : List ℕ) (texts : List (List ℕ)) (key : Key)
    → is_member is_same (keys_at chosen texts) key ≡ true
    → (text : List ℕ) × (list_any (bytes_eq text) texts ≡ true)
    × (is_same key (record { columns = chosen; text = text }) ≡ true)
text_at chosen [] key there = absurd (true≢false (sym there))
text_at chosen (text ∷ texts) key there =
    elim (either (is_same key (record { columns = chosen; text = text }))
    (is_member is_same (keys_at chosen texts) key) there) [
      | inl same ↦ (
        text,
        or_first (bytes_eq text text) (list_any (bytes_eq text) texts)
            (nat_list_eq_equiv.refl text),
        same,
      )
      | inr later ↦ let (other, among, same) = text_at chosen texts key later in
          (other, or_second (bytes_eq other text) (list_any (bytes_eq other) texts) among, same)
    ]

-- the keys that a collect distinguishes are keys that were met
pub keys_few : (chosen : List ℕ) (sync : Predicate) (rate : rates.Regex) (f : Qre) (word : Word)
    → length (keys_after chosen sync [] word) ≤ keys_met (collect chosen sync rate f) word
keys_few chosen sync rate f word =
    let texts = keys_after chosen sync [] word in
    let few = count_few (keys_at chosen texts) (keys_among (chosen ∷ key_columns f) word)
    (differ_at chosen texts (keys_differ chosen sync word [] none_differ)) (λ key there.
    let (text, among, same) = text_at chosen texts key there in
    elim (text_cases chosen sync word [] text among) [
      | inl none ↦ absurd (true≢false (sym none))
      | inr is ↦
          let it = is.is_met in
          met_among (chosen ∷ key_columns f) word key (record {
            chosen = it.chosen;
            item = it.item;
            in_columns = Contains-append_left (chosen ∷ []) (key_columns f) it.chosen it.in_columns;
            in_word = it.in_word;
            same = same_keys.congr key (record { columns = chosen; text = text })
                (record { columns = it.chosen; text = key_of it.chosen it.item }) same ∙ it.same;
          })
    ]) in
    let count = length-map texts (λ (text : List ℕ). key_at chosen text) in
    omega (arith, few, count)

-- an entry has one of the keys
pub entries_of_keys : (D : List ℕ → Value → Type 0) (keys : List (List ℕ))
    (entries : List (List ℕ × Scalar)) → AreEntries D keys entries → length entries ≤ length keys
entries_of_keys D [] entries are = let none = ap length are in omega (arith, none)
entries_of_keys D (key ∷ keys) entries are =
    elim are [
      | inl (scalar, others, gives, rest, whole) ↦
          let count = ap length whole in
          let few = entries_of_keys D keys others rest in
          omega (arith, count, few)
      | inr (none, rest) ↦ let few = entries_of_keys D keys entries rest in omega (arith, few)
    ]
