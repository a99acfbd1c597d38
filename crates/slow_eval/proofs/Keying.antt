-- The keys of a word, and what it has for each, front by front.
use Rattle.std.proofs.Common.{append-nil, ◌≡◌, ◌<◌, ◌≤◌, ℕ, ◌+◌, ◌++◌, ◌∙◌, ◌||◌, Bool, true, false}
use Rattle.std.proofs.Common.{cond, List, [], ◌∷◌, Option, None, length, take, drop, get_or, refl}
use Rattle.std.proofs.Common.{sym, subst, ap, arith, inl, inr, length-append, take-append-drop}
use Rattle.std.proofs.Common.{take_at, take_all}
use Rattle.std.proofs.lemmas.List.{get_or_append_left, get_or_push, length_push, take-append-le}
use Rattle.std.proofs.lemmas.List.{take_more}
use Rattle.std.proofs.lemmas.List.Elements.{filter-append, filter_more}
use Rattle.std.specs.List.{list_any}
use Rattle.std.specs.Str.{bytes_eq}
use Rattle.value_ops.specs.declared.field.Field.{Field}
use Rattle.value_ops.specs.declared.value.Value.{Value}
use Rattle.predicates.specs.Predicates.{Predicate}
use Rattle.predicates.specs.Truth.{holds}
use Rattle.rate_expr.specs.Words.{Word}
use Rattle.rate_expr.proofs.MaskSets.{below-more}
use Rattle.query_model.specs.Denotation.{keys_after, projection, with_key}
use Rattle.query_model.specs.Keys.{key_of}
use Rattle.slow_eval.specs.Projections.{AreKeysOf, IsOnItems}

-- one more item
abbrev pub keys_and : List ℕ → Predicate → List (List ℕ) → List Field → List (List ℕ)
keys_and chosen sync keys item = cond (holds sync item) keys (with_key keys (key_of chosen item))

pub and_kept : (chosen : List ℕ) (sync : Predicate) (keys : List (List ℕ)) (item : List Field)
    → holds sync item ≡ true → keys_and chosen sync keys item ≡ keys
and_kept chosen sync keys item is = ap (λ b. cond b keys (with_key keys (key_of chosen item))) is

pub and_added : (chosen : List ℕ) (sync : Predicate) (keys : List (List ℕ)) (item : List Field)
    → holds sync item ≡ false → keys_and chosen sync keys item ≡ with_key keys (key_of chosen item)
and_added chosen sync keys item is = ap (λ b. cond b keys (with_key keys (key_of chosen item))) is

keys_more : (chosen : List ℕ) (sync : Predicate) (keys : List (List ℕ)) (word : Word)
    (item : List Field)
    → keys_after chosen sync keys (word ++ item ∷ [])
    ≡ keys_and chosen sync (keys_after chosen sync keys word) item
keys_more chosen sync keys [] item = refl
keys_more chosen sync keys (first ∷ word) item =
    keys_more chosen sync (keys_and chosen sync keys first) word item

-- the keys that were there stand first
record StandFirst (keys new : List (List ℕ)) : Type 0 where
  longer : length keys ≤ length new
  front : (n : ℕ) → n ≤ length keys → take n new ≡ take n keys

same_keys : (keys : List (List ℕ)) → StandFirst keys keys
same_keys keys = record { longer = omega arith; front = λ n within. refl }

key_first : (keys : List (List ℕ)) (key : List ℕ) → StandFirst keys (with_key keys key)
key_first keys key = by (list_any (bytes_eq key) keys)
  where
    by : (seen : Bool) → StandFirst keys (cond seen keys (keys ++ key ∷ []))
    by true = same_keys keys
    by false = record {
      longer = let long = length_push keys key in omega arith;
      front = λ n within. take-append-le n keys (key ∷ []) within;
    }

and_first : (chosen : List ℕ) (sync : Predicate) (keys : List (List ℕ)) (item : List Field)
    → StandFirst keys (keys_and chosen sync keys item)
and_first chosen sync keys item = by (holds sync item)
  where
    by : (of_all : Bool) → StandFirst keys (cond of_all keys (with_key keys (key_of chosen item)))
    by true = same_keys keys
    by false = key_first keys (key_of chosen item)

-- the keys of a front, and how many of them have appeared on each shorter one
pub record AreKeysSoFar (chosen : List ℕ) (sync : Predicate) (word : Word) (at : ℕ)
    (keys : List (List ℕ))
    (counts : List ℕ) : Type 0 where
  pub of_front : keys ≡ keys_after chosen sync [] (take at word)
  pub count : length counts ≡ at + 1
  pub within : (place : ℕ) → place ≤ at → get_or counts place 0 ≤ length keys
  pub each : (place : ℕ) → place ≤ at
      → keys_after chosen sync [] (take place word) ≡ take (get_or counts place 0) keys

pub keys_begin : (chosen : List ℕ) (sync : Predicate) (word : Word)
    → AreKeysSoFar chosen sync word 0 [] (0 ∷ [])
keys_begin chosen sync word = record {
  of_front = refl;
  count = refl;
  within = λ place none. rw (first place none) (omega arith);
  each = λ place none. rw (first place none) refl;
}
  where
    first : (place : ℕ) → place ≤ 0 → place ≡ 0
    first place none = omega arith

pub keys_step : (chosen : List ℕ) (sync : Predicate) (word : Word) (at : ℕ)
    (keys new : List (List ℕ))
    (counts : List ℕ) (item : List Field) → AreKeysSoFar chosen sync word at keys counts
    → at < length word → get_or word at item ≡ item → new ≡ keys_and chosen sync keys item
    → AreKeysSoFar chosen sync word (at + 1) new (counts ++ length new ∷ [])
keys_step chosen sync word at keys new counts item so_far inside read is =
    let more : take (at + 1) word ≡ take at word ++ item ∷ [] =
    take_more word at item inside ∙ ap (λ x. take at word ++ x ∷ []) read in
    let whole : new ≡ keys_after chosen sync [] (take (at + 1) word) =
    is ∙ ap (λ ks. keys_and chosen sync ks item) so_far.of_front
    ∙ sym (keys_more chosen sync [] (take at word) item)
    ∙ ap (keys_after chosen sync []) (sym more) in
    let first : StandFirst keys new =
    subst (StandFirst keys) (sym is) (and_first chosen sync keys item) in
    let long : length counts ≡ at + 1 = so_far.count in
    record {
      of_front = whole;
      count = length_push counts (length new) ∙ ap (λ n. n + 1) long;
      within = λ place within. elim (below-more place (at + 1) (omega arith)) [
        | inl here ↦
            subst (λ p. get_or (counts ++ length new ∷ []) p 0 ≤ length new) (sym here)
            (subst (λ n. n ≤ length new)
            (sym (get_or_push counts (length new) 0 (at + 1) long)) (omega arith))
        | inr before ↦
            let kept : get_or counts place 0 ≤ length keys = so_far.within place (omega arith) in
            let longer : length keys ≤ length new = first.longer in
            subst (λ n. n ≤ length new)
            (sym (get_or_append_left counts (length new ∷ []) 0 place (omega arith))) (omega arith)
      ];
      each = λ place within. elim (below-more place (at + 1) (omega arith)) [
        | inl here ↦
            subst (λ p. keys_after chosen sync [] (take p word)
            ≡ take (get_or (counts ++ length new ∷ []) p 0) new)
            (sym here)
            (sym whole ∙ sym (take_all (length new) new (omega arith))
            ∙ ap (λ n. take n new) (sym (get_or_push counts (length new) 0 (at + 1) long)))
        | inr before ↦
            so_far.each place (omega arith)
            ∙ sym (first.front (get_or counts place 0) (so_far.within place (omega arith)))
            ∙ ap (λ n. take n new)
            (sym (get_or_append_left counts (length new ∷ []) 0 place (omega arith)))
      ];
    }

pub keys_end : (chosen : List ℕ) (sync : Predicate) (word : Word) (at : ℕ) (keys : List (List ℕ))
    (counts : List ℕ) → AreKeysSoFar chosen sync word at keys counts → at ≡ length word
    → AreKeysOf chosen sync word keys counts
keys_end chosen sync word at keys counts all reached = record {
  whole = all.of_front ∙ ap (keys_after chosen sync []) (take_all at word (omega arith));
  count = all.count ∙ ap (λ n. n + 1) reached;
  within = λ place inside. all.within place (omega arith);
  each = λ place inside. all.each place (omega arith);
}

-- whether an item is one of the key or of all keys
abbrev pub is_of : List ℕ → Predicate → List ℕ → List Field → Bool
is_of chosen sync key item = holds sync item || bytes_eq (key_of chosen item) key

-- the projection of a word begins with that of a front
pub projection_front : (chosen : List ℕ) (sync : Predicate) (key : List ℕ) (word : Word) (place : ℕ)
    → projection chosen sync key word
    ≡ projection chosen sync key (take place word) ++ projection chosen sync key (drop place word)
projection_front chosen sync key word place =
    ap (projection chosen sync key) (sym (take-append-drop place word))
    ∙ filter-append (is_of chosen sync key) (take place word) (drop place word)

pub projection_shorter : (chosen : List ℕ) (sync : Predicate) (key : List ℕ)
    (word : Word) (place : ℕ)
    → length (projection chosen sync key (take place word))
    ≤ length (projection chosen sync key word)
projection_shorter chosen sync key word place =
    let first = projection chosen sync key (take place word) in
    let rest = projection chosen sync key (drop place word) in
    let long : length (projection chosen sync key word) ≡ length first + length rest =
    ap length (projection_front chosen sync key word place) ∙ length-append first rest in
    omega arith

pub projection_taken : (chosen : List ℕ) (sync : Predicate) (key : List ℕ) (word : Word) (place : ℕ)
    → take (length (projection chosen sync key (take place word))) (projection chosen sync key word)
    ≡ projection chosen sync key (take place word)
projection_taken chosen sync key word place =
    let first = projection chosen sync key (take place word) in
    ap (take (length first)) (projection_front chosen sync key word place)
    ∙ take_at first (projection chosen sync key (drop place word)) (length first) refl

-- one more item is one of the key, or is not
pub projection_more : (chosen : List ℕ) (sync : Predicate) (key : List ℕ) (word : Word) (at : ℕ)
    (item : List Field) → at < length word → get_or word at item ≡ item
    → projection chosen sync key (take (at + 1) word)
    ≡ projection chosen sync key (take at word) ++ cond (is_of chosen sync key item) (item ∷ []) []
projection_more chosen sync key word at item inside read =
    filter_more (is_of chosen sync key) word at item inside
    ∙ ap
    (λ x. projection chosen sync key (take at word) ++ cond (is_of chosen sync key x) (x ∷ []) [])
    read

pub counted : (chosen : List ℕ) (sync : Predicate) (key : List ℕ) (word : Word) (at items : ℕ)
    (item : List Field) → items ≡ length (projection chosen sync key (take at word))
    → at < length word → get_or word at item ≡ item → is_of chosen sync key item ≡ true
    → items + 1 ≡ length (projection chosen sync key (take (at + 1) word))
counted chosen sync key word at items item so_far inside read is =
    ap (λ n. n + 1) so_far
    ∙ sym (length_push (projection chosen sync key (take at word)) item)
    ∙ ap (λ b. length (projection chosen sync key (take at word) ++ cond b (item ∷ []) [])) (sym is)
    ∙ ap length (sym (projection_more chosen sync key word at item inside read))

pub passed : (chosen : List ℕ) (sync : Predicate) (key : List ℕ) (word : Word) (at items : ℕ)
    (item : List Field) → items ≡ length (projection chosen sync key (take at word))
    → at < length word → get_or word at item ≡ item → is_of chosen sync key item ≡ false
    → items ≡ length (projection chosen sync key (take (at + 1) word))
passed chosen sync key word at items item so_far inside read is =
    so_far
    ∙ ap length (sym (append-nil (projection chosen sync key (take at word))))
    ∙ ap (λ b. length (projection chosen sync key (take at word) ++ cond b (item ∷ []) [])) (sym is)
    ∙ ap length (sym (projection_more chosen sync key word at item inside read))

-- the answers on the fronts so far, and how many items the longest has for the key
pub record IsOnItemsSoFar (chosen : List ℕ) (sync : Predicate) (key : List ℕ) (word : Word)
    (answers row : List (Option Value)) (at items : ℕ) : Type 0 where
  pub items_are : items ≡ length (projection chosen sync key (take at word))
  pub count : length row ≡ at + 1
  pub each : (place : ℕ) → place ≤ at
      → get_or row place None
      ≡ get_or answers (length (projection chosen sync key (take place word))) None

pub items_begin : (chosen : List ℕ) (sync : Predicate) (key : List ℕ) (word : Word)
    (answers : List (Option Value)) (answer : Option Value) → answer ≡ get_or answers 0 None
    → IsOnItemsSoFar chosen sync key word answers (answer ∷ []) 0 0
items_begin chosen sync key word answers answer is = record {
  items_are = refl;
  count = refl;
  each = λ place none. rw (first place none) is;
}
  where
    first : (place : ℕ) → place ≤ 0 → place ≡ 0
    first place none = omega arith

pub items_step : (chosen : List ℕ) (sync : Predicate) (key : List ℕ) (word : Word)
    (answers row : List (Option Value)) (at items after : ℕ) (answer : Option Value)
    → IsOnItemsSoFar chosen sync key word answers row at items
    → after ≡ length (projection chosen sync key (take (at + 1) word))
    → answer ≡ get_or answers after None
    → IsOnItemsSoFar chosen sync key word answers (row ++ answer ∷ []) (at + 1) after
items_step chosen sync key word answers row at items after answer so_far are is =
    let long : length row ≡ at + 1 = so_far.count in
    record {
      items_are = are;
      count = length_push row answer ∙ ap (λ n. n + 1) long;
      each = λ place within. elim (below-more place (at + 1) (omega arith)) [
        | inl here ↦
            subst (λ p. get_or (row ++ answer ∷ []) p None
            ≡ get_or answers (length (projection chosen sync key (take p word))) None) (sym here)
            (get_or_push row answer None (at + 1) long ∙ is ∙ ap (λ n. get_or answers n None) are)
        | inr before ↦
            get_or_append_left row (answer ∷ []) None place (omega arith)
            ∙ so_far.each place (omega arith)
      ];
    }

pub items_end : (chosen : List ℕ) (sync : Predicate) (key : List ℕ) (word : Word)
    (answers row : List (Option Value)) (at items : ℕ)
    → IsOnItemsSoFar chosen sync key word answers row at items → at ≡ length word
    → IsOnItems chosen sync key word answers row
items_end chosen sync key word answers row at items all whole = record {
  count = all.count ∙ ap (λ n. n + 1) whole;
  each = λ place inside. all.each place (omega arith);
}
