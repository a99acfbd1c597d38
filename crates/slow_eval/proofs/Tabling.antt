-- The entries that keys make.
use Rattle.std.proofs.Common.{◌≡◌, ◌<◌, ℕ, zero, suc, ◌+◌, ◌++◌, ◌∙◌, false, cond, List, [], ◌∷◌}
use Rattle.std.proofs.Common.{Option, None, Some, length, take, get_or, refl, subst, ap, arith}
use Rattle.std.proofs.Common.{append-nil}
use Rattle.std.specs.List.{AllByRecursion, IsDistinct, cons_option}
use Rattle.std.specs.Str.{bytes_eq}
use Rattle.std.proofs.lemmas.List.{take_more}
use Rattle.std.proofs.lemmas.List.Elements.{filter_map-append}
use Rattle.std.proofs.lemmas.Map.Keys.{IsDistinct-cons, IsDistinct-head, IsDistinct-tail}
use Rattle.value_ops.specs.Entries.{value_at}
use Rattle.value_ops.specs.declared.scalar.Scalar.{Scalar}
use Rattle.value_ops.specs.declared.value.Value.{Value}
use Rattle.value_ops.specs.declared.value.Value.TheVariants as value
use Rattle.slow_eval.specs.declared.keyed_answers.Keyed.{Keyed}
use Rattle.slow_eval.specs.Tabled.{HaveAnswersAt, entries_at, entry_with, keys_in, scalar_of}

-- what holds of all elements holds of the first ones
pub all_take : {A : Type 0} (P : A → Type 0) (n : ℕ) (xs : List A) → AllByRecursion P xs
    → AllByRecursion P (take n xs)
all_take P zero xs all = tt
all_take P (suc n) [] all = tt
all_take P (suc n) (x ∷ xs) all = (all.0, all_take P n xs all.1)

-- and of one more
pub all_push : {A : Type 0} (P : A → Type 0) (xs : List A) (x : A) → AllByRecursion P xs → P x
    → AllByRecursion P (xs ++ x ∷ [])
all_push P [] x all one = (one, tt)
all_push P (y ∷ xs) x all one = (all.0, all_push P xs x all.1 one)

-- and what follows from it
pub all_so : {A : Type 0} (P Q : A → Type 0) (xs : List A) → ((x : A) → P x → Q x)
    → AllByRecursion P xs → AllByRecursion Q xs
all_so P Q [] so all = tt
all_so P Q (x ∷ xs) so all = (so x all.0, all_so P Q xs so all.1)

-- and of the one at a place
pub all_at : {A : Type 0} (P : A → Type 0) (xs : List A) (i : ℕ) (d : A)
    → AllByRecursion P xs → i < length xs → P (get_or xs i d)
all_at P [] i d all inside = absurd (omega arith)
all_at P (x ∷ xs) zero d all inside = all.0
all_at P (x ∷ xs) (suc i) d all inside = all_at P xs i d all.1 (omega arith)

-- of the keys
key_at : (P : List ℕ → Type 0) (all : List Keyed) (i : ℕ) (d : Keyed)
    → AllByRecursion P (keys_in all) → i < length all → P (get_or all i d).key
key_at P [] i d each inside = absurd (omega arith)
key_at P (one ∷ all) zero d each inside = each.0
key_at P (one ∷ all) (suc i) d each inside = key_at P all i d each.1 (omega arith)

keys_take : (P : List ℕ → Type 0) (n : ℕ) (all : List Keyed) → AllByRecursion P (keys_in all)
    → AllByRecursion P (keys_in (take n all))
keys_take P zero all each = tt
keys_take P (suc n) [] each = tt
keys_take P (suc n) (one ∷ all) each = (each.0, keys_take P n all each.1)

none_differ : IsDistinct bytes_eq []
unfolding IsDistinct
none_differ = tt

-- the first keys differ where all do
pub distinct_take : (n : ℕ) (all : List Keyed) → IsDistinct bytes_eq (keys_in all)
    → IsDistinct bytes_eq (keys_in (take n all))
distinct_take zero all distinct = none_differ
distinct_take (suc n) [] distinct = none_differ
distinct_take (suc n) (one ∷ all) distinct =
    IsDistinct-cons bytes_eq one.key (keys_in (take n all))
    (keys_take (λ key. bytes_eq one.key key ≡ false) n all
    (IsDistinct-head bytes_eq one.key (keys_in all) distinct))
    (distinct_take n all (IsDistinct-tail bytes_eq one.key (keys_in all) distinct))

-- and are not the one after them
earlier_differ : (all : List Keyed) (i : ℕ) (d : Keyed) → IsDistinct bytes_eq (keys_in all)
    → i < length all
    → AllByRecursion (λ (one : Keyed). bytes_eq one.key (get_or all i d).key ≡ false) (take i all)
earlier_differ [] i d distinct inside = absurd (omega arith)
earlier_differ (one ∷ all) zero d distinct inside = tt
earlier_differ (one ∷ all) (suc i) d distinct inside = (
  key_at (λ key. bytes_eq one.key key ≡ false) all i d
      (IsDistinct-head bytes_eq one.key (keys_in all) distinct) (omega arith),
  earlier_differ all i d (IsDistinct-tail bytes_eq one.key (keys_in all) distinct) (omega arith),
)

no_entry : (key : List ℕ) (place : ℕ) (all : List Keyed)
    → AllByRecursion (λ (one : Keyed). bytes_eq one.key key ≡ false) all
    → value_at key (entries_at place all) ≡ None
no_entry key place [] differ = refl
no_entry key place (one ∷ all) differ =
    by (get_or one.answers.items place None) (no_entry key place all differ.1)
  where
    by : (answer : Option Value) → value_at key (entries_at place all) ≡ None
        → value_at key (cons_option (entry_with one.key answer) (entries_at place all)) ≡ None
    by None rest = rest
    by (Some (value.Scalar scalar)) rest =
        ap (λ b. cond b (Some scalar) (value_at key (entries_at place all))) differ.0 ∙ rest
    by (Some (value.Rec parts)) rest = rest
    by (Some (value.Table entries)) rest = rest

-- no entry stands under a key before it is put
pub absent : (all : List Keyed) (place i : ℕ) (one : Keyed) → IsDistinct bytes_eq (keys_in all)
    → i < length all → get_or all i one ≡ one
    → value_at one.key (entries_at place (take i all)) ≡ None
absent all place i one distinct inside read =
    no_entry one.key place (take i all)
    (subst (λ (k : Keyed). AllByRecursion (λ (other : Keyed). bytes_eq other.key k.key ≡ false)
    (take i all)) read
    (earlier_differ all i one distinct inside))

-- the entries of one more key
pub entries_more : (all : List Keyed) (place i : ℕ) (one : Keyed) (answer : Option Value)
    → i < length all → get_or all i one ≡ one → get_or one.answers.items place None ≡ answer
    → entries_at place (take (i + 1) all)
    ≡ entries_at place (take i all) ++ cons_option (entry_with one.key answer) []
entries_more all place i one answer inside read is =
    ap (entries_at place)
    (take_more all i one inside ∙ ap (λ (k : Keyed). take i all ++ k ∷ []) read)
    ∙ filter_map-append (λ (k : Keyed). entry_with k.key (get_or k.answers.items place None))
    (take i all) (one ∷ [])
    ∙ ap (λ a. entries_at place (take i all) ++ cons_option (entry_with one.key a) []) is

-- nothing more where there is no scalar
pub entries_same : (all : List Keyed) (place i : ℕ) (one : Keyed) (answer : Option Value)
    → i < length all → get_or all i one ≡ one → get_or one.answers.items place None ≡ answer
    → entry_with one.key answer ≡ None
    → entries_at place (take (i + 1) all) ≡ entries_at place (take i all)
entries_same all place i one answer inside read is none =
    entries_more all place i one answer inside read is
    ∙ ap (λ entry. entries_at place (take i all) ++ cons_option entry []) none
    ∙ append-nil (entries_at place (take i all))

-- the entry of a key where its answer is a scalar, and where it is none
pub entry_some : (key : List ℕ) (answer : Option Value) (scalar : Scalar)
    → scalar_of answer ≡ Some scalar → entry_with key answer ≡ Some (key, scalar)
entry_some key None scalar is = let no : None ≡ Some scalar = is in cc
entry_some key (Some (value.Scalar other)) scalar is =
    ap (λ s. Some (key, s)) (let e : Some other ≡ Some scalar = is in cc)
entry_some key (Some (value.Rec parts)) scalar is = let no : None ≡ Some scalar = is in cc
entry_some key (Some (value.Table entries)) scalar is = let no : None ≡ Some scalar = is in cc

pub entry_none : (key : List ℕ) (answer : Option Value) → scalar_of answer ≡ None
    → entry_with key answer ≡ None
entry_none key None is = refl
entry_none key (Some (value.Scalar other)) is = let no : Some other ≡ None = is in cc
entry_none key (Some (value.Rec parts)) is = refl
entry_none key (Some (value.Table entries)) is = refl

-- the key at a place has an answer
pub answer_inside : (all : List Keyed) (place i : ℕ) (one : Keyed) → HaveAnswersAt place all
    → i < length all → get_or all i one ≡ one → place < length one.answers.items
answer_inside all place i one have inside read =
    subst (λ (k : Keyed). place < length k.answers.items) read
    (all_at (λ (k : Keyed). place < length k.answers.items) all i one have inside)
