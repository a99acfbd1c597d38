-- The keys of a word, each counted once.
use Rattle.std.proofs.Common.{◌≡◌, ◌≤◌, ◌∙◌, Bool, true, false, cond, ◌||◌, List, [], ◌∷◌, length}
use Rattle.std.proofs.Common.{refl, sym, ap, ◌⊎◌, inl, inr}
use Rattle.std.specs.Cmp.{IsEquivalence}
use Rattle.std.specs.List.{AllByRecursion, IsDistinct}
use Rattle.std.specs.Set.{distinct_count, is_member, unique_keys}
use Rattle.std.proofs.lemmas.Bool.{true≢false}
use Rattle.std.proofs.lemmas.Cmp.{and_equiv, nat_list_eq_equiv, on_equiv}
use Rattle.std.proofs.lemmas.Map.Keys.{IsDistinct-cons}
use Rattle.std.proofs.lemmas.Map.Made.{length-le_from_is_member}
use Rattle.std.proofs.lemmas.Map.Steps.{list_any_congr}
use Rattle.memory_bound.specs.KeysMet.{Key, is_same}

pub same_keys : IsEquivalence is_same
same_keys = and_equiv (on_equiv (λ (key : Key). key.columns) nat_list_eq_equiv)
    (on_equiv (λ (key : Key). key.text) nat_list_eq_equiv)

-- one of the keys is another's
pub either : (a b : Bool) → (a || b) ≡ true → (a ≡ true) ⊎ (b ≡ true)
either true b is = inl refl
either false b is = inr is

pub or_first : (a b : Bool) → a ≡ true → (a || b) ≡ true
or_first a b is = ap (λ x. x || b) is

pub or_second : (a b : Bool) → b ≡ true → (a || b) ≡ true
or_second true b is = refl
or_second false b is = is

-- of each key that comes again the last is kept
member_once : (keys : List Key) (key : Key)
    → is_member is_same (unique_keys is_same keys) key ≡ true → is_member is_same keys key ≡ true
member_once [] key there = there
member_once (x ∷ keys) key there = by (is_member is_same keys x) (member_once keys key) there
  where
    by : (again : Bool) → (is_member is_same (unique_keys is_same keys) key ≡ true
        → is_member is_same keys key ≡ true)
        → is_member is_same
        (cond again (unique_keys is_same keys) (x ∷ unique_keys is_same keys)) key ≡ true
        → is_member is_same (x ∷ keys) key ≡ true
    by true rest there = or_second (is_same key x) (is_member is_same keys key) (rest there)
    by false rest there =
        elim (either (is_same key x) (is_member is_same (unique_keys is_same keys) key) there) [
          | inl is ↦ or_first (is_same key x) (is_member is_same keys key) is
          | inr later ↦ or_second (is_same key x) (is_member is_same keys key) (rest later)
        ]

once_member : (keys : List Key) (key : Key) → is_member is_same keys key ≡ true
    → is_member is_same (unique_keys is_same keys) key ≡ true
once_member [] key there = there
once_member (x ∷ keys) key there = by (is_member is_same keys x) refl (once_member keys key)
  where
    by : (again : Bool) → is_member is_same keys x ≡ again
        → (is_member is_same keys key ≡ true
        → is_member is_same (unique_keys is_same keys) key ≡ true)
        → is_member is_same
        (cond again (unique_keys is_same keys) (x ∷ unique_keys is_same keys)) key ≡ true
    by true is rest = elim (either (is_same key x) (is_member is_same keys key) there) [
      | inl same ↦ rest (list_any_congr same_keys key x keys same ∙ is)
      | inr later ↦ rest later
    ]
    by false is rest = elim (either (is_same key x) (is_member is_same keys key) there) [
      | inl same ↦ or_first (is_same key x) (is_member is_same (unique_keys is_same keys) key) same
      | inr later ↦ or_second (is_same key x) (is_member is_same (unique_keys is_same keys) key)
          (rest later)
    ]

neither : (a b : Bool) → (a || b) ≡ false → (a ≡ false) × (b ≡ false)
neither true b is = absurd (true≢false is)
neither false b is = (refl, is)

all_apart : (x : Key) (keys : List Key) → is_member is_same keys x ≡ false
    → AllByRecursion (λ y. is_same x y ≡ false) keys
all_apart x [] is = tt
all_apart x (y ∷ keys) is =
    let two = neither (is_same x y) (is_member is_same keys x) is in (two.0, all_apart x keys two.1)

none_once : (x : Key) (keys : List Key) → is_member is_same keys x ≡ false
    → is_member is_same (unique_keys is_same keys) x ≡ false
none_once x keys none = by (is_member is_same (unique_keys is_same keys) x) refl
  where
    by : (there : Bool) → is_member is_same (unique_keys is_same keys) x ≡ there
        → is_member is_same (unique_keys is_same keys) x ≡ false
    by true is = absurd (true≢false (sym (member_once keys x is) ∙ none))
    by false is = is

none_differ : IsDistinct is_same []
unfolding IsDistinct
none_differ = tt

once_distinct : (keys : List Key) → IsDistinct is_same (unique_keys is_same keys)
once_distinct [] = none_differ
once_distinct (x ∷ keys) = by (is_member is_same keys x) refl (once_distinct keys)
  where
    by : (again : Bool) → is_member is_same keys x ≡ again
        → IsDistinct is_same (unique_keys is_same keys)
        → IsDistinct is_same (cond again (unique_keys is_same keys) (x ∷ unique_keys is_same keys))
    by true is rest = rest
    by false is rest = IsDistinct-cons is_same x (unique_keys is_same keys)
        (all_apart x (unique_keys is_same keys) (none_once x keys is)) rest

-- distinct keys that are all among others are at most as many
pub count_few : (keys others : List Key) → IsDistinct is_same keys
    → ((key : Key) → is_member is_same keys key ≡ true → is_member is_same others key ≡ true)
    → length keys ≤ distinct_count is_same others
count_few keys others distinct among =
    length-le_from_is_member same_keys keys (unique_keys is_same others) distinct
    (λ key there. once_member others key (among key there))

pub count_mono : (keys others : List Key)
    → ((key : Key) → is_member is_same keys key ≡ true → is_member is_same others key ≡ true)
    → distinct_count is_same keys ≤ distinct_count is_same others
count_mono keys others among =
    count_few (unique_keys is_same keys) others (once_distinct keys)
    (λ key there. among key (member_once keys key there))
