-- Runners for keys that stand for a word, where one more item goes by.
use Rattle.std.proofs.Common.{◌≡◌, ◌∙◌, ℕ, ◌+◌, zero, suc, Bool, true, false, List, [], ◌∷◌, ◌++◌}
use Rattle.std.proofs.Common.{Some, length, set, slice_get, refl, sym, ap, subst, arith, inl, inr}
use Rattle.std.specs.Prelude.{filter}
use Rattle.std.specs.List.{AllByRecursion, AllZip, Contains, IsDistinct}
use Rattle.std.specs.Str.{bytes_eq}
use Rattle.std.proofs.lemmas.Bool.{false≢true}
use Rattle.std.proofs.lemmas.Map.Keys.{IsDistinct-head, IsDistinct-tail}
use Rattle.std.proofs.lemmas.Option.{none-some, same_Some}
use Rattle.std.proofs.lemmas.Slice.Eq.{bytes_eq-Decides}
use Rattle.value_ops.specs.declared.field.Field.{Field}
use Rattle.predicates.specs.Predicates.{Predicate}
use Rattle.predicates.specs.Truth.{holds}
use Rattle.item_schema.specs.declared.column.Column.{Column}
use Rattle.item_schema.specs.Items.{IsItemOf}
use Rattle.rate_expr.specs.Words.{Word, IsWordOf}
use Rattle.query_model.specs.Denotation.{keys_after, projection, with_key}
use Rattle.query_model.specs.Keys.{key_of}
use Rattle.query_model.specs.Following.{IsAnswer}
use Rattle.query_model.specs.Queries.{Qre}
use Rattle.query_model.specs.QueryTypes.{type_of}
use Rattle.query_model.specs.Rules.{Standing, IsClear}
use Rattle.query_model.proofs.Keys.{kept_word, keys_are}
use Rattle.map_collect.specs.Followers.{Followers}
use Rattle.map_collect.specs.Keys.{fallback_of, followers_of, names_of}
use Rattle.map_collect.specs.declared.keys.Keys.{Keys}
use Rattle.eval_nodes.specs.Copies.{IsCopy, IsCopyOf}
use Rattle.eval_nodes.specs.Runners.{FollowsWord, IsSoundOf}
use Rattle.eval_nodes.specs.Holdings.{Seen}
use Rattle.eval_nodes.specs.Sound.{IsSound, IsSoundWithin, IsTyped}
use Rattle.eval_nodes.proofs.Instances.{all_joined, all_mapped, all_member}
use Rattle.eval_nodes.proofs.Zips.{read_there, zip_all, zip_first, zip_push, zip_through}
use Rattle.step_laws.specs.Collects.{AreSoundOf, IsPushed, StandsFor}
use Rattle.step_laws.specs.Feeds.{IsCarried}
use Rattle.step_laws.specs.Pushes.{AllCarried, HasKey, IsCarriedAt}
use Rattle.step_laws.proofs.Copied.{copy_represents, copy_sound}
use Rattle.step_laws.proofs.KeyWords.{is_of, kept_more, keys_of_all, keys_of_key, new_key, of_all}
use Rattle.step_laws.proofs.KeyWords.{of_key, of_other, passed_over, with_new, with_old}

-- another value beside the key at an index, where the keys differ
pub zip_written : {B : Type 0} (P Q : List ℕ → B → Type 0) (names : List (List ℕ))
    (ys : List B) (i : ℕ) (key : List ℕ) (y : B) → slice_get names i ≡ Some key
    → IsDistinct bytes_eq names
    → ((other : List ℕ) (z : B) → (other ≡ key → ⊥) → P other z → Q other z) → Q key y
    → AllZip P names ys → AllZip Q names (set ys i y)
zip_written P Q [] ys i key y at distinct others is zip = absurd (none-some key at)
zip_written P Q (name ∷ names) [] i key y at distinct others is zip = absurd zip
zip_written {B} P Q (name ∷ names) (z ∷ ys) zero key y at distinct others is zip =
    let same : name ≡ key = same_Some name key at in (
      subst (λ (k : List ℕ). Q k y) (sym same) is,
      rest names ys (IsDistinct-head bytes_eq name names distinct) zip.1,
    )
  where
    rest : (names' : List (List ℕ)) (ys' : List B)
        → AllByRecursion (λ other. bytes_eq name other ≡ false) names'
        → AllZip P names' ys' → AllZip Q names' ys'
    rest [] [] apart zip' = tt
    rest [] (w ∷ ys') apart zip' = absurd zip'
    rest (other ∷ names') [] apart zip' = absurd zip'
    rest (other ∷ names') (w ∷ ys') apart zip' = (
      others other w (λ equal. false≢true (sym apart.0
          ∙ (bytes_eq-Decides name other).1 (same_Some name key at ∙ sym equal))) zip'.0,
      rest names' ys' apart.1 zip'.1,
    )
zip_written P Q (name ∷ names) (z ∷ ys) (suc i) key y at distinct others is zip = (
  others name z
      (λ equal. false≢true (sym (all_member (λ other. bytes_eq name other ≡ false) names key
      (IsDistinct-head bytes_eq name names distinct) (read_there names i key at))
      ∙ (bytes_eq-Decides name key).1 equal)) zip.0,
  zip_written P Q names ys i key y at (IsDistinct-tail bytes_eq name names distinct)
      others is zip.1,
)

pub all_set : {A : Type 0} (P : A → Type 0) (xs : List A) (i : ℕ) (x : A)
    → AllByRecursion P xs → P x → AllByRecursion P (set xs i x)
all_set P [] i x all is = tt
all_set P (y ∷ xs) zero x all is = (is, all.1)
all_set P (y ∷ xs) (suc i) x all is = (all.0, all_set P xs i x all.1 is)

-- a key that was put last stands after the others
pub last_read : {A : Type 0} (xs : List A) (x : A) (i : ℕ) → i ≡ length xs
    → slice_get (xs ++ x ∷ []) i ≡ Some x
last_read [] x zero is = refl
last_read [] x (suc i) is = absurd (omega (arith, is))
last_read (y ∷ xs) x zero is = absurd (omega (arith, is))
last_read (y ∷ xs) x (suc i) is = last_read xs x i (omega (arith, is))

module _ {R : Type 0} (seen : R → Seen R) where
  -- a copy of a runner follows what it follows, and is sound
  pub copied_follows : (columns : List Column) (q : Qre) (word : Word) (old new : R)
      → IsCopyOf seen (IsCopy seen q) old new → FollowsWord seen columns q word old
      → FollowsWord seen columns q word new
  copied_follows columns q word old new copied follows = record {
    position = copied.position ∙ follows.position;
    node = copy_represents seen columns q (seen old).node (seen new).node word (0 ∷ [])
        copied.node follows.node;
    answer = subst (IsAnswer q word) (sym copied.answer) follows.answer;
  }

  pub copied_soundly : (columns : List Column) (q : Qre) (most : ℕ) (old new : R)
      → IsCopyOf seen (IsCopy seen q) old new
      → IsSoundWithin seen (IsSoundOf seen columns q) most old
      → IsSoundWithin seen (IsSoundOf seen columns q) most new
  copied_soundly columns q most old new copied is =
      let within = is.within in
      let same = copied.position in
      record {
        within = omega (arith, within, same);
        sound = record {
          node = subst (λ (n : ℕ). IsSound seen columns q n (seen new).node) (sym same)
              (copy_sound seen columns q (seen old).position (seen old).node (seen new).node
              copied.node is.sound.node);
          answer = subst (IsTyped (type_of columns q)) (sym copied.answer) is.sound.answer;
        };
      }

  -- one that takes an item
  pub carried_soundly : (standing : Standing) (columns : List Column) (q : Qre)
      (most : ℕ) (old new : R) (item : List Field) → IsClear standing columns q
      → IsItemOf columns item → IsCarried seen q old item new
      → IsSoundWithin seen (IsSoundOf seen columns q) most old
      → IsSoundWithin seen (IsSoundOf seen columns q) (most + 1) new
  carried_soundly standing columns q most old new item clear is_item takes is =
      let within = is.within in
      let position = takes.position in
      record {
        within = omega (arith, within, position);
        sound = takes.sound standing columns clear is_item is.sound;
      }

  pub one_more : (columns : List Column) (q : Qre) (most : ℕ) (runner : R)
      → IsSoundWithin seen (IsSoundOf seen columns q) most runner
      → IsSoundWithin seen (IsSoundOf seen columns q) (most + 1) runner
  one_more columns q most runner is = let within = is.within in
      record { within = omega (arith, within); sound = is.sound }

  -- keys with one more, whose runner is a copy
  pub key_soundly : (columns : List Column) (q : Qre) (most : ℕ) (key : List ℕ)
      (old mid : Keys R) (place : ℕ) → HasKey seen q key old place mid
      → AreSoundOf seen columns q most old → AreSoundOf seen columns q most mid
  key_soundly columns q most key old mid place has sound = elim has.made [
    | inl same ↦ subst (AreSoundOf seen columns q most) (sym same) sound
    | inr (fresh, runner, copied, fallback, keyed) ↦ record {
      fallback =
          subst (IsSoundWithin seen (IsSoundOf seen columns q) most) (sym fallback) sound.fallback;
      keyed = subst (λ (keyed : Followers R).
          AllByRecursion (IsSoundWithin seen (IsSoundOf seen columns q) most)
          keyed.followers) (sym keyed)
          (all_joined (IsSoundWithin seen (IsSoundOf seen columns q) most) (followers_of old)
          (runner ∷ []) sound.keyed
          (copied_soundly columns q most (fallback_of old) runner copied sound.fallback, tt));
    }
  ]

  module _ (q : Qre) (chosen : List ℕ) (sync : Predicate) (item : List Field) where
    module _ (standing : Standing) (columns : List Column)
        (clear : IsClear standing columns q) where
      -- what the word has for a key that the item is of
      takes_on : (word : Word) (test : List Field → Bool) (old new : R)
          → IsWordOf columns (word ++ item ∷ []) → test item ≡ true → IsCarried seen q old item new
          → FollowsWord seen columns q (filter test word) old
          → FollowsWord seen columns q (filter test (word ++ item ∷ [])) new
      takes_on word test old new is met takes follows =
          let more = kept_more test word item met in
          subst (λ (u : Word). FollowsWord seen columns q u new) (sym more)
          (takes.word standing columns (filter test word) clear
          (subst (IsWordOf columns) more (kept_word columns test (word ++ item ∷ []) is)) follows)

      -- and for one that it is not of
      stays_at : (word : Word) (test : List Field → Bool) (runner : R) → test item ≡ false
          → FollowsWord seen columns q (filter test word) runner
          → FollowsWord seen columns q (filter test (word ++ item ∷ [])) runner
      stays_at word test runner passed follows =
          subst (λ (u : Word). FollowsWord seen columns q u runner)
          (sym (passed_over test word item passed)) follows

      -- an item of all keys
      all_stand : (word : Word) (old new : Keys R) → IsWordOf columns (word ++ item ∷ [])
          → holds sync item ≡ true → AllCarried seen q item old new
          → StandsFor seen columns q chosen sync word old
          → StandsFor seen columns q chosen sync (word ++ item ∷ []) new
      all_stand word old new is of_each takes stands = record {
        fallback = takes_on word (holds sync) (fallback_of old) (fallback_of new) is of_each
            takes.fallback stands.fallback;
        names = takes.names ∙ stands.names ∙ sym (keys_of_all chosen sync word item of_each);
        each = subst (λ (names : List (List ℕ)). AllZip
            (λ key runner. FollowsWord seen columns q
            (projection chosen sync key (word ++ item ∷ [])) runner) names
            (followers_of new)) (sym takes.names)
            (zip_through
            (λ key runner. FollowsWord seen columns q (projection chosen sync key word) runner)
            (λ runner carried. IsCarried seen q runner item carried)
            (λ key runner. FollowsWord seen columns q
            (projection chosen sync key (word ++ item ∷ [])) runner)
            (names_of old) (followers_of old) (followers_of new)
            (λ key runner carried follows takes_one. takes_on word (is_of chosen sync key)
            runner carried is
            (of_all chosen sync key item of_each) takes_one follows) stands.each takes.keyed);
      }

      -- the keys with that of the item, before it goes by
      record WithKey (word : Word) (keys : Keys R) : Type 0 where
        fallback : FollowsWord seen columns q (filter (holds sync) word) (fallback_of keys)
        names : names_of keys ≡ with_key (keys_after chosen sync [] word) (key_of chosen item)
        each : AllZip
            (λ key runner. FollowsWord seen columns q (projection chosen sync key word) runner)
            (names_of keys) (followers_of keys)

      has_key : (word : Word) (old mid : Keys R) (place : ℕ)
          → HasKey seen q (key_of chosen item) old place mid
          → StandsFor seen columns q chosen sync word old → WithKey word mid
      has_key word old mid place has stands = elim has.made [
        | inl same ↦
            let key = key_of chosen item in
            let there : Contains (keys_after chosen sync [] word) key =
            subst (λ (names : List (List ℕ)). Contains names key)
            (ap (λ (keys : Keys R). names_of keys) same ∙ stands.names)
            (read_there (names_of mid) place key has.there) in
            subst (WithKey word) (sym same) (record {
              fallback = stands.fallback;
              names = stands.names
                  ∙ sym (with_old chosen sync (keys_after chosen sync [] word) key there);
              each = stands.each;
            })
        | inr (fresh, runner, copied, fallback, keyed) ↦
            let key = key_of chosen item in
            let none = (λ (there : Contains (keys_after chosen sync [] word) key).
            fresh (subst (λ (names : List (List ℕ)). Contains names key)
            (sym stands.names) there)) in
            let P : List ℕ → R → Type 0 =
            (λ key runner. FollowsWord seen columns q (projection chosen sync key word) runner) in
            record {
              fallback = subst (FollowsWord seen columns q (filter (holds sync) word))
                  (sym fallback) stands.fallback;
              names = ap (λ (keyed : Followers R). keyed.names) keyed
                  ∙ ap (λ (names : List (List ℕ)). names ++ key ∷ []) stands.names
                  ∙ sym (with_new chosen sync (keys_after chosen sync [] word) key none);
              each =
                  subst (λ (keyed : Followers R). AllZip P keyed.names keyed.followers) (sym keyed)
                  (zip_push P (names_of old) (followers_of old) key runner stands.each
                  (subst (λ (u : Word). FollowsWord seen columns q u runner)
                  (sym (new_key chosen sync key word none))
                  (copied_follows columns q (filter (holds sync) word) (fallback_of old) runner
                  copied stands.fallback)));
            }
      ]

      -- it takes the item, and the others have nothing more
      key_stands : (word : Word) (mid new : Keys R) (place : ℕ)
          → IsWordOf columns (word ++ item ∷ []) → holds sync item ≡ false
          → slice_get (names_of mid) place ≡ Some (key_of chosen item)
          → IsCarriedAt seen q place item mid new → WithKey word mid
          → StandsFor seen columns q chosen sync (word ++ item ∷ []) new
      key_stands word mid new place is of_one there takes stands =
          let key = key_of chosen item in
          let P : List ℕ → R → Type 0 =
          (λ key runner. FollowsWord seen columns q (projection chosen sync key word) runner) in
          let Q : List ℕ → R → Type 0 =
          (λ key runner. FollowsWord seen columns q
          (projection chosen sync key (word ++ item ∷ [])) runner) in
          let names = stands.names ∙ sym (keys_of_key chosen sync word item of_one) in
          let distinct : IsDistinct bytes_eq (names_of mid) =
          subst (IsDistinct bytes_eq) (sym names)
          (keys_are columns chosen sync (word ++ item ∷ []) is).distinct in
          let (name, at, follows) = zip_first P (names_of mid) (followers_of mid) place takes.runner
          takes.read stands.each in
          let same : name ≡ key = same_Some name key (sym at ∙ there) in
          record {
            fallback = subst (FollowsWord seen columns q (filter (holds sync) (word ++ item ∷ [])))
                (sym takes.fallback)
                (stays_at word (holds sync) (fallback_of mid) of_one stands.fallback);
            names = ap (λ (keyed : Followers R). keyed.names) takes.is ∙ names;
            each =
                subst (λ (keyed : Followers R). AllZip Q keyed.names keyed.followers) (sym takes.is)
                (zip_written P Q (names_of mid) (followers_of mid) place key
                takes.carried there distinct
                (λ other runner differs follows_it. stays_at word (is_of chosen sync other) runner
                (of_other chosen sync other item of_one (λ equal. differs (sym equal))) follows_it)
                (takes_on word (is_of chosen sync key) takes.runner takes.carried is
                (of_key chosen sync key item of_one refl) takes.takes
                (subst (λ (k : List ℕ). P k takes.runner) same follows)) stands.each);
          }

    module _ (standing : Standing) (columns : List Column) (most : ℕ)
        (clear : IsClear standing columns q) (is_item : IsItemOf columns item) where
      all_soundly : (old new : Keys R) → AllCarried seen q item old new
          → AreSoundOf seen columns q most old → AreSoundOf seen columns q (most + 1) new
      all_soundly old new takes sound = record {
        fallback = carried_soundly standing columns q most (fallback_of old) (fallback_of new)
            item clear is_item takes.fallback sound.fallback;
        keyed = zip_all (λ runner carried. IsCarried seen q runner item carried)
            (IsSoundWithin seen (IsSoundOf seen columns q) most)
            (IsSoundWithin seen (IsSoundOf seen columns q) (most + 1))
            (followers_of old) (followers_of new)
            (λ runner carried takes_one is. carried_soundly standing columns q most runner carried
            item clear is_item takes_one is)
            takes.keyed sound.keyed;
      }

      at_soundly : (mid new : Keys R) (place : ℕ) → IsCarriedAt seen q place item mid new
          → AreSoundOf seen columns q most mid → AreSoundOf seen columns q (most + 1) new
      at_soundly mid new place takes sound =
          let old = all_member (IsSoundWithin seen (IsSoundOf seen columns q) most)
          (followers_of mid) takes.runner sound.keyed
          (read_there (followers_of mid) place takes.runner takes.read) in
          record {
            fallback = subst (IsSoundWithin seen (IsSoundOf seen columns q) (most + 1))
                (sym takes.fallback) (one_more columns q most (fallback_of mid) sound.fallback);
            keyed = subst (λ (keyed : Followers R).
                AllByRecursion (IsSoundWithin seen (IsSoundOf seen columns q) (most + 1))
                keyed.followers) (sym takes.is)
                (all_set (IsSoundWithin seen (IsSoundOf seen columns q) (most + 1))
                (followers_of mid) place takes.carried
                (all_mapped (IsSoundWithin seen (IsSoundOf seen columns q) most)
                (IsSoundWithin seen (IsSoundOf seen columns q) (most + 1)) (followers_of mid)
                (one_more columns q most) sound.keyed)
                (carried_soundly standing columns q most takes.runner takes.carried item clear
                is_item takes.takes old));
          }

    -- an item of all keys
    pub pushed_all : (old new : Keys R) → holds sync item ≡ true → AllCarried seen q item old new
        → IsPushed seen q chosen sync old item new
    pushed_all old new of_each takes = record {
      word = λ standing columns word clear is stands. all_stand standing columns clear word old new
          is of_each takes stands;
      sound = λ standing columns most clear is_item sound. all_soundly standing columns most clear
          is_item old new takes sound;
    }

    -- an item of one key
    pub pushed_key : (old mid new : Keys R) (place : ℕ) → holds sync item ≡ false
        → HasKey seen q (key_of chosen item) old place mid → IsCarriedAt seen q place item mid new
        → IsPushed seen q chosen sync old item new
    pushed_key old mid new place of_one has takes = record {
      word = λ standing columns word clear is stands. key_stands standing columns clear word mid new
          place is of_one has.there
          takes (has_key standing columns clear word old mid place has stands);
      sound = λ standing columns most clear is_item sound. at_soundly standing columns most clear
          is_item mid new place takes
          (key_soundly columns q most (key_of chosen item) old mid place has sound);
    }
