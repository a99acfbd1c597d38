-- The answers of a collection.
use Rattle.std.proofs.Common.{◌≡◌, ◌<◌, ◌≤◌, ◌↔◌, ℕ, ◌+◌, ◌++◌, ◌∙◌, Bool, true, false, IsTrue}
use Rattle.std.proofs.Common.{cond, List, [], ◌∷◌, Option, None, Some, length, take, get_or, refl}
use Rattle.std.proofs.Common.{sym, subst, ap, arith, inl, inr, take_all}
use Rattle.std.specs.List.{AllByRecursion, IsDistinct, cons_option}
use Rattle.std.specs.Str.{bytes_eq}
use Rattle.std.proofs.lemmas.List.{length-map, map-append, take-map, take_more}
use Rattle.value_ops.specs.declared.value.Value.{Value}
use Rattle.value_ops.specs.declared.value.Value.TheVariants as value
use Rattle.value_ops.specs.declared.value.ValueType.TheVariants.{Number}
use Rattle.value_ops.specs.Types.{IsValueOf}
use Rattle.predicates.specs.Predicates.{Predicate}
use Rattle.rate_expr.specs.Language.{In}
use Rattle.rate_expr.specs.Rates as rate
use Rattle.rate_expr.specs.Words.{Word}
use Rattle.query_model.specs.Denotation.{AreEntries, Den, keys_after, projection}
use Rattle.query_model.specs.Following.{IsAnswer}
use Rattle.query_model.specs.Queries.{Qre, collect}
use Rattle.query_model.specs.Rules.{bound}
use Rattle.query_model.proofs.Keys.{kept_word, keys_are}
use Rattle.query_model.proofs.Typed.{den_typed, on_keys}
use Rattle.slow_eval.specs.declared.keyed_answers.Keyed.{Keyed}
use Rattle.slow_eval.specs.Answers.{AreAnswers, CanBeRead}
use Rattle.slow_eval.specs.Fronts.{AreInRate}
use Rattle.slow_eval.specs.Projections.{AreKeysOf, IsOnItems}
use Rattle.slow_eval.specs.Tabled.{AreTables, HaveAnswersAt, IsKeyed, entries_at, entry_with}
use Rattle.slow_eval.specs.Tabled.{keys_in}
use Rattle.slow_eval.proofs.Cutting.{front_word}
use Rattle.slow_eval.proofs.Keying.{projection_shorter, projection_taken}
use Rattle.slow_eval.proofs.Tabling.{all_push, all_so, all_take}

-- the query of the values, on what a word has for a key
pub of_key : (chosen : List ℕ) (sync : Predicate) (r : rate.Regex) (f : Qre)
    (key : List ℕ) (word : Word)
    → CanBeRead (collect chosen sync r f) word → CanBeRead f (projection chosen sync key word)
of_key chosen sync r f key word can = record {
  standing = bound;
  columns = can.columns;
  clear = can.clear.0;
  is_word = kept_word can.columns _ word can.is_word;
  positions = can.positions.0;
}

-- from those on the fronts of all that the word has for it
pub keyed : (f : Qre) (chosen : List ℕ) (sync : Predicate) (word : Word) (one : Keyed)
    (found : List (Option Value)) → AreAnswers f (projection chosen sync one.key word) found
    → IsOnItems chosen sync one.key word found one.answers.items → IsKeyed f chosen sync word one
keyed f chosen sync word one found answers on = record {
  count = on.count;
  each = λ place inside.
      let items = projection chosen sync one.key (take place word) in
      subst (IsAnswer f items) (sym (on.each place inside))
      (subst (λ w. IsAnswer f w (get_or found (length items) None))
      (projection_taken chosen sync one.key word place)
      (answers.each (length items) (projection_shorter chosen sync one.key word place)));
}

-- the first keys, each with its answers
pub record AreKeyed (f : Qre) (chosen : List ℕ) (sync : Predicate) (word : Word)
    (keys : List (List ℕ)) (at : ℕ)
    (all : List Keyed) : Type 0 where
  pub of_keys : keys_in all ≡ take at keys
  pub each : AllByRecursion (IsKeyed f chosen sync word) all

pub keyed_begin : (f : Qre) (chosen : List ℕ) (sync : Predicate) (word : Word)
    (keys : List (List ℕ))
    → AreKeyed f chosen sync word keys 0 []
keyed_begin f chosen sync word keys = record { of_keys = refl; each = tt }

pub keyed_more : (f : Qre) (chosen : List ℕ) (sync : Predicate) (word : Word)
    (keys : List (List ℕ)) (at : ℕ) (all : List Keyed) (one : Keyed)
    → AreKeyed f chosen sync word keys at all → at < length keys
    → get_or keys at one.key ≡ one.key → IsKeyed f chosen sync word one
    → AreKeyed f chosen sync word keys (at + 1) (all ++ one ∷ [])
keyed_more f chosen sync word keys at all one so_far inside read is = record {
  of_keys =
      map-append (λ (k : Keyed). k.key) all (one ∷ [])
      ∙ ap (λ ks. ks ++ one.key ∷ []) so_far.of_keys ∙ ap (λ k. take at keys ++ k ∷ []) (sym read)
      ∙ sym (take_more keys at one.key inside);
  each = all_push (IsKeyed f chosen sync word) all one so_far.each is;
}

-- all keys
pub keyed_all : (f : Qre) (chosen : List ℕ) (sync : Predicate) (word : Word)
    (keys : List (List ℕ)) (at : ℕ) (all : List Keyed) → AreKeyed f chosen sync word keys at all
    → length keys ≤ at → keys_in all ≡ keys
keyed_all f chosen sync word keys at all so_far whole = so_far.of_keys ∙ take_all at keys whole

-- the same tables, by other names
pub tables_by : (fronts fronts' : List Bool) (counts counts' : List ℕ) (all all' : List Keyed)
    (row : List (Option Value)) → AreTables fronts' counts' all' row → fronts' ≡ fronts
    → counts' ≡ counts → all' ≡ all → AreTables fronts counts all row
tables_by fronts fronts' counts counts' all all' row tables same same' same'' =
    subst (λ fs. AreTables fs counts all row) same
    (subst (λ cs. AreTables fronts' cs all row) same'
    (subst (λ xs. AreTables fronts' counts' xs row) same'' tables))

module _ (f : Qre) (chosen : List ℕ) (sync : Predicate) (r : rate.Regex) (word : Word)
    (keys : List (List ℕ)) (counts : List ℕ) (all : List Keyed)
    (can : CanBeRead (collect chosen sync r f) word) (are : AreKeysOf chosen sync word keys counts)
    (all_keys : keys_in all ≡ keys)
    (each_keyed : AllByRecursion (IsKeyed f chosen sync word) all) where
  -- the keys differ
  pub keys_differ : IsDistinct bytes_eq (keys_in all)
  keys_differ =
      subst (IsDistinct bytes_eq) (sym (all_keys ∙ are.whole))
      (keys_are can.columns chosen sync word can.is_word).distinct

  -- this many are there
  pub keys_enough : (place : ℕ) → place ≤ length word → get_or counts place 0 ≤ length all
  keys_enough place inside =
      let same : length all ≡ length keys =
      sym (length-map all (λ (k : Keyed). k.key)) ∙ ap length all_keys in
      let within : get_or counts place 0 ≤ length keys = are.within place inside in
      omega arith

  pub answers_there : (place : ℕ) → place ≤ length word → HaveAnswersAt place all
  answers_there place inside =
      all_so (IsKeyed f chosen sync word) (λ (one : Keyed). place < length one.answers.items) all
      (λ one is. let count : length one.answers.items ≡ length word + 1 = is.count in omega arith)
      each_keyed

  -- the entries of keys are their scalars on a front
  entries_are : (place : ℕ) → place ≤ length word → (some : List Keyed)
      → AllByRecursion (IsKeyed f chosen sync word) some
      → AreEntries (on_keys f chosen sync (take place word)) (keys_in some) (entries_at place some)
  entries_are place inside [] each = refl
  entries_are place inside (one ∷ some) each =
      by (get_or one.answers.items place None) (each.0.each place inside)
      (entries_are place inside some each.1)
    where
      is_number : (v : Value) → Den f (projection chosen sync one.key (take place word)) v
          → IsValueOf Number v
      is_number v den = subst (λ ty. IsValueOf ty v) can.clear.1
          (den_typed bound can.columns f (projection chosen sync one.key (take place word)) v
          can.clear.0 (kept_word can.columns _ (take place word)
          (front_word can.columns word place can.is_word)) den)

      by : (answer : Option Value)
          → IsAnswer f (projection chosen sync one.key (take place word)) answer
          → AreEntries (on_keys f chosen sync (take place word)) (keys_in some)
          (entries_at place some)
          → AreEntries (on_keys f chosen sync (take place word)) (one.key ∷ keys_in some)
          (cons_option (entry_with one.key answer) (entries_at place some))
      by None none rest = inr (none, rest)
      by (Some (value.Scalar scalar)) den rest =
          inl (scalar, entries_at place some, den, rest, refl)
      by (Some (value.Rec parts)) den rest = absurd (is_number (value.Rec parts) den)
      by (Some (value.Table entries)) den rest = absurd (is_number (value.Table entries) den)

  -- those of the keys of the front
  table_is : (place : ℕ) → place ≤ length word
      → AreEntries (on_keys f chosen sync (take place word))
      (keys_after chosen sync [] (take place word))
      (entries_at place (take (get_or counts place 0) all))
  table_is place inside =
      let n = get_or counts place 0 in
      let first : keys_in (take n all) ≡ keys_after chosen sync [] (take place word) =
      sym (take-map (λ (k : Keyed). k.key) n all) ∙ ap (take n) all_keys
      ∙ sym (are.each place inside) in
      subst (λ ks. AreEntries (on_keys f chosen sync (take place word)) ks
      (entries_at place (take n all))) first
      (entries_are place inside (take n all)
      (all_take (IsKeyed f chosen sync word) n all each_keyed))

  collected_at : (place : ℕ) → place ≤ length word → (in_rate : Bool)
      → IsTrue in_rate ↔ In r (take place word)
      → IsAnswer (collect chosen sync r f) (take place word)
      (cond in_rate (Some (value.Table (entries_at place (take (get_or counts place 0) all)))) None)
  collected_at place inside true is =
      (entries_at place (take (get_or counts place 0) all), is.0 refl, table_is place inside, refl)
  collected_at place inside false is =
      λ v (entries, in_rate, each, same). let no : false ≡ true = is.1 in_rate in cc

  -- all answers of a collection
  pub collected : (fronts : List Bool) (row : List (Option Value)) → AreInRate r word fronts
      → AreTables fronts counts all row → AreAnswers (collect chosen sync r f) word row
  collected fronts row in_rate tables = record {
    count = tables.count ∙ in_rate.count;
    each = λ place inside.
        let count : length fronts ≡ length word + 1 = in_rate.count in
        subst (IsAnswer (collect chosen sync r f) (take place word))
        (sym (tables.each place (omega arith)))
        (collected_at place inside (get_or fronts place false) (in_rate.each place inside));
  }
