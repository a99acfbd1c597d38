-- A list that is read item by item, with the keys of what was read so far.
use Rattle.std.proofs.Common.{◌≡◌, ◌≤◌, ◌+◌, ◌++◌, ◌∙◌, ◌||◌, ℕ, zero, suc, Bool, true, false}
use Rattle.std.proofs.Common.{List, [], ◌∷◌, Some, length, map, take, refl, sym, ap, subst, inl, inr}
use Rattle.std.proofs.Common.{cond, eqb, not}
use Rattle.std.specs.Cmp.{IsEquivalence}
use Rattle.std.specs.List.{AllByRecursion, Contains, IsDistinct, list_any, slice_get}
use Rattle.std.proofs.lemmas.Bool.{eq-eqb, false≢true, ne_eqb, not-false, not-true}
use Rattle.std.proofs.lemmas.List.{map_push, take_all, take_more}
use Rattle.std.proofs.lemmas.Map.Keys.{IsDistinct-cons, IsDistinct-head, IsDistinct-push}
use Rattle.std.proofs.lemmas.Map.Keys.{IsDistinct-tail}
use Rattle.std.proofs.lemmas.Option.{get_or_from_slice_get, none-some, same_Some, slice_get_within}
use Rattle.indexmap.specs.IndexSet.{insert_key}
use Rattle.eval_nodes.specs.Starts.{AreDifferent}
use Rattle.eval_nodes.proofs.Instances.{all_joined}
use Rattle.eval_nodes.proofs.Members.{first_member, later_member, member_cases, no_member}

-- ---- different numbers

apart_from : (x : ℕ) (xs : List ℕ) → (Contains xs x → ⊥) → AllByRecursion (λ y. eqb x y ≡ false) xs
apart_from x [] fresh = tt
apart_from x (y ∷ xs) fresh = (
  ne_eqb x y (λ same. fresh (subst (Contains (y ∷ xs)) (sym same) (first_member y xs))),
  apart_from x xs (λ there. fresh (later_member y x xs there)),
)

no_equal : (x : ℕ) (xs : List ℕ) → AllByRecursion (λ y. eqb x y ≡ false) xs → Contains xs x → ⊥
no_equal x [] all there = no_member x there
no_equal x (y ∷ xs) all there = elim (member_cases y x xs there) [
  | inl same ↦ false≢true (sym all.0 ∙ eq-eqb x y (sym same))
  | inr more ↦ no_equal x xs all.1 more
]

none_distinct : {K : Type 0} (eq : K → K → Bool) → IsDistinct eq []
unfolding IsDistinct
none_distinct eq = tt

pub distinct_of : (xs : List ℕ) → AreDifferent xs → IsDistinct eqb xs
distinct_of [] different = none_distinct eqb
distinct_of (x ∷ xs) different =
    IsDistinct-cons eqb x xs (apart_from x xs different.0) (distinct_of xs different.1)

pub different_of : (xs : List ℕ) → IsDistinct eqb xs → AreDifferent xs
different_of [] distinct = tt
different_of (x ∷ xs) distinct = (
  no_equal x xs (IsDistinct-head eqb x xs distinct),
  different_of xs (IsDistinct-tail eqb x xs distinct),
)

-- ---- what holds of all holds of each

pub all_at : {A : Type 0} (P : A → Type 0) (xs : List A) (i : ℕ) (x : A) → slice_get xs i ≡ Some x
    → AllByRecursion P xs → P x
all_at P [] i x at all = absurd (none-some x at)
all_at P (y ∷ xs) zero x at all = subst P (same_Some y x at) all.0
all_at P (y ∷ xs) (suc i) x at all = all_at P xs i x at all.1

key_at : {A K : Type 0} (key : A → K) (P : K → Type 0) (xs : List A) (i : ℕ) (x : A)
    → slice_get xs i ≡ Some x → AllByRecursion P (map key xs) → P (key x)
key_at key P [] i x at all = absurd (none-some x at)
key_at key P (y ∷ xs) zero x at all = subst (λ z. P (key z)) (same_Some y x at) all.0
key_at key P (y ∷ xs) (suc i) x at all = key_at key P xs i x at all.1

-- ---- one more item

take_next : {A : Type 0} (xs : List A) (i : ℕ) (x : A) → slice_get xs i ≡ Some x
    → take (i + 1) xs ≡ take i xs ++ x ∷ []
take_next xs i x at =
    take_more xs i x (slice_get_within xs i x at)
    ∙ ap (λ y. take i xs ++ y ∷ []) (get_or_from_slice_get xs i x x at)

-- the keys of what was read are these, and all different; and what was read is as it is to be
pub record SoFar {X K : Type 0} (eq : K → K → Bool) (key : X → K) (P : X → Type 0) (xs : List X)
    (i : ℕ) (seen : List K) : Type 0 where
  pub keys : seen ≡ map key (take i xs)
  pub distinct : IsDistinct eq seen
  pub each : AllByRecursion P (take i xs)

module _ {X K : Type 0} (eq : K → K → Bool) (laws : IsEquivalence eq) (key : X → K)
    (P : X → Type 0) (xs : List X) where
  pub nothing_yet : (seen : List K) → seen ≡ [] → SoFar eq key P xs 0 seen
  nothing_yet seen none = record {
    keys = none;
    distinct = subst (IsDistinct eq) (sym none) (none_distinct eq);
    each = tt;
  }

  pub one_more : (i : ℕ) (x : X) (seen new : List K) → SoFar eq key P xs i seen
      → slice_get xs i ≡ Some x → list_any (eq (key x)) seen ≡ false → new ≡ seen ++ key x ∷ []
      → P x → SoFar eq key P xs (i + 1) new
  one_more i x seen new so at fresh is fits =
      let next : take (i + 1) xs ≡ take i xs ++ x ∷ [] = take_next xs i x at in
      record {
        keys = is ∙ ap (λ (ks : List K). ks ++ key x ∷ []) so.keys
            ∙ sym (map_push key (take i xs) x) ∙ ap (map key) (sym next);
        distinct = subst (IsDistinct eq) (sym is)
            (IsDistinct-push laws seen (key x) so.distinct fresh);
        each = subst (AllByRecursion P) (sym next)
            (all_joined P (take i xs) (x ∷ []) so.each (fits, tt));
      }

  pub all_read : (i : ℕ) (seen : List K) → length xs ≤ i → SoFar eq key P xs i seen
      → IsDistinct eq (map key xs) × AllByRecursion P xs
  all_read i seen end so =
      let whole : take i xs ≡ xs = take_all i xs end in (
        subst (λ (read : List X). IsDistinct eq (map key read)) whole
            (subst (IsDistinct eq) so.keys so.distinct),
        subst (AllByRecursion P) whole so.each,
      )

-- what a set says of a key that was put in
fresh_key : {K : Type 0} (eq : K → K → Bool) (ks new : List K) (k : K) (is_new : Bool)
    → is_new ≡ not (list_any (eq k) ks) → new ≡ insert_key eq ks k → is_new ≡ true
    → (list_any (eq k) ks ≡ false) × (new ≡ ks ++ k ∷ [])
fresh_key eq ks new k is_new added keys was_new =
    let fresh : list_any (eq k) ks ≡ false = not-true (list_any (eq k) ks) (sym added ∙ was_new) in
    (fresh, keys ∙ ap (λ (b : Bool). cond b ks (ks ++ k ∷ [])) fresh)

-- a key that comes twice
again : {X K : Type 0} (eq : K → K → Bool) → IsEquivalence eq → (key : X → K) (xs : List X)
    (i : ℕ) (x : X) → slice_get xs i ≡ Some x
    → list_any (eq (key x)) (map key (take i xs)) ≡ true → IsDistinct eq (map key xs) → ⊥
again eq laws key [] i x at there distinct = none-some x at
again eq laws key (y ∷ xs) zero x at there distinct = false≢true there
again eq laws key (y ∷ xs) (suc i) x at there distinct =
    among (eq (key x) (key y)) refl
    (λ more. again eq laws key xs i x at more (IsDistinct-tail eq (key y) (map key xs) distinct))
  where
    among : (same : Bool) → eq (key x) (key y) ≡ same
        → (list_any (eq (key x)) (map key (take i xs)) ≡ true → ⊥) → ⊥
    among true is further =
        let differs : eq (key y) (key x) ≡ false =
        key_at key (λ k. eq (key y) k ≡ false) xs i x at
        (IsDistinct-head eq (key y) (map key xs) distinct) in
        false≢true (sym differs ∙ laws.symm (key y) (key x) ∙ is)
    among false is further =
        further (ap (λ (b : Bool). b || list_any (eq (key x)) (map key (take i xs))) (sym is)
        ∙ there)

pub twice : {X K : Type 0} (eq : K → K → Bool) → IsEquivalence eq → (key : X → K)
    (P : X → Type 0) (xs : List X) (i : ℕ) (x : X) (seen : List K) → SoFar eq key P xs i seen
    → slice_get xs i ≡ Some x → list_any (eq (key x)) seen ≡ true → IsDistinct eq (map key xs) → ⊥
twice eq laws key P xs i x seen so at there distinct =
    again eq laws key xs i x at
    (ap (list_any (eq (key x))) (sym so.keys) ∙ there) distinct

module _ {X K : Type 0} (eq : K → K → Bool) (laws : IsEquivalence eq) (key : X → K)
    (P : X → Type 0) (xs : List X) (i : ℕ) (x : X) (seen : List K) (is_new : Bool)
    (so : SoFar eq key P xs i seen) (at : slice_get xs i ≡ Some x)
    (added : is_new ≡ not (list_any (eq (key x)) seen)) where
  -- a new key, and an item that is as it is to be
  pub gathers : (new : List K) → new ≡ insert_key eq seen (key x) → is_new ≡ true → P x
      → SoFar eq key P xs (i + 1) new
  gathers new keys was_new fits =
      let put = fresh_key eq seen new (key x) is_new added keys was_new in
      one_more eq laws key P xs i x seen new so at put.0 put.1 fits

  -- a key that is not new
  pub clashes : is_new ≡ false → IsDistinct eq (map key xs) → ⊥
  clashes known = twice eq laws key P xs i x seen so at
      (not-false (list_any (eq (key x)) seen) (sym added ∙ known))
