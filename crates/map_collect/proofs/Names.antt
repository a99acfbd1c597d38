-- Keys as lists of bytes: where one stands, and one more.
use Rattle.std.proofs.Common.{◌≡◌, ◌+◌, ◌<◌, ◌||◌, ◌∙◌, ◌++◌, ℕ, zero, suc, Bool, true, false, cond}
use Rattle.std.proofs.Common.{List, [], ◌∷◌, Option, None, Some, get_or, length, refl, sym, ap}
use Rattle.std.proofs.Common.{subst, arith}
use Rattle.std.specs.Prelude.{IfNone, IfSome}
use Rattle.std.specs.List.{list_any, position, position_from, slice_get, Contains, IsDistinct}
use Rattle.std.specs.Str.{bytes_eq}
use Rattle.std.proofs.lemmas.Bool.{false≢true}
use Rattle.std.proofs.lemmas.Cmp.{nat_list_eq_equiv}
use Rattle.std.proofs.lemmas.Iterator.Adapters.{position_from-zero}
use Rattle.std.proofs.lemmas.List.{length-append}
use Rattle.std.proofs.lemmas.Map.Keys.{IsDistinct-push}
use Rattle.std.proofs.lemmas.Option.{none-some, same_Some}
use Rattle.std.proofs.lemmas.Slice.Eq.{bytes_eq-Decides}
use Rattle.map_collect.specs.Followers.{with_key, AreKept, Followers}

there_first : (same : Bool) (key : List ℕ) (name : List ℕ) (names : List (List ℕ)) (from i : ℕ)
    → bytes_eq key name ≡ same
    → (position_from (bytes_eq key) (from + 1) names ≡ Some i
    → (k : ℕ) × (i ≡ from + 1 + k) × (slice_get names k ≡ Some key))
    → cond same (Some from) (position_from (bytes_eq key) (from + 1) names) ≡ Some i
    → (k : ℕ) × (i ≡ from + k) × (slice_get (name ∷ names) k ≡ Some key)
there_first true key name names from i same further some =
    let is : key ≡ name = (bytes_eq-Decides key name).0 same in
    let first : from ≡ i = same_Some from i some in
    (zero, omega (arith, first), ap (λ (text : List ℕ). Some text) (sym is))
there_first false key name names from i same further some =
    let rest = further some in
    let is = rest.1 in
    (suc rest.0, omega (arith, is), rest.2)

there_from : (key : List ℕ) (names : List (List ℕ)) (from i : ℕ)
    → position_from (bytes_eq key) from names ≡ Some i
    → (k : ℕ) × (i ≡ from + k) × (slice_get names k ≡ Some key)
there_from key [] from i some = absurd (none-some i some)
there_from key (name ∷ names) from i some =
    there_first (bytes_eq key name) key name names from i refl
    (there_from key names (from + 1) i) some

-- the key stands at the place that is found
pub there : (key : List ℕ) (names : List (List ℕ)) (i : ℕ)
    → position_from (bytes_eq key) 0 names ≡ Some i → slice_get names i ≡ Some key
there key names i some =
    let found = there_from key names 0 i some in
    let is = found.1 in
    subst (λ (k : ℕ). slice_get names k ≡ Some key) (omega (arith, is)) found.2

nowhere_first : (same : Bool) (from : ℕ) (place : Option ℕ) (among : Bool)
    → (place ≡ None → among ≡ false) → cond same (Some from) place ≡ None → (same || among) ≡ false
nowhere_first true from place among further none = absurd (none-some from (sym none))
nowhere_first false from place among further none = further none

-- where no place is found, no name has the bytes of the key
pub nowhere : (key : List ℕ) (names : List (List ℕ)) (from : ℕ)
    → position_from (bytes_eq key) from names ≡ None → list_any (bytes_eq key) names ≡ false
nowhere key [] from none = refl
nowhere key (name ∷ names) from none =
    nowhere_first (bytes_eq key name) from (position_from (bytes_eq key) (from + 1) names)
    (list_any (bytes_eq key) names) (nowhere key names (from + 1)) none

first_absent : (same : Bool) (among : Bool) → (same || among) ≡ false
    → (same ≡ false) × (among ≡ false)
first_absent true among none = absurd (false≢true (sym none))
first_absent false among none = (refl, none)

absent_at : (key : List ℕ) (names : List (List ℕ)) (k : ℕ)
    → list_any (bytes_eq key) names ≡ false → k < length names
    → (d : List ℕ) → get_or names k d ≡ key → ⊥
absent_at key [] k none inside d is = absurd (omega (arith, inside))
absent_at key (name ∷ names) zero none inside d is =
    let other = (first_absent (bytes_eq key name) (list_any (bytes_eq key) names) none).0 in
    false≢true (sym other ∙ (bytes_eq-Decides key name).1 (sym is))
absent_at key (name ∷ names) (suc k) none inside d is =
    absent_at key names k (first_absent (bytes_eq key name) (list_any (bytes_eq key) names) none).1
    (omega (arith, inside)) d is

-- so it is no key
pub absent : (key : List ℕ) (names : List (List ℕ))
    → list_any (bytes_eq key) names ≡ false → Contains names key → ⊥
absent key names none found = absent_at key names found.0 none found.1 _ found.2

fresh_first : (same among : Bool) → (same ≡ true → ⊥) → among ≡ false → (same || among) ≡ false
fresh_first true among differs none = absurd (differs refl)
fresh_first false among differs none = none

-- and the other way round
pub none_among : (key : List ℕ) (texts : List (List ℕ))
    → (Contains texts key → ⊥) → list_any (bytes_eq key) texts ≡ false
none_among key [] fresh = refl
none_among key (text ∷ texts) fresh =
    fresh_first (bytes_eq key text) (list_any (bytes_eq key) texts)
    (λ same. fresh (zero, omega arith, sym ((bytes_eq-Decides key text).0 same)))
    (none_among key texts
    (λ found. fresh (suc found.0, (let inside = found.1 in omega (arith, inside)), found.2)))

-- one more key, which was not there
pub more_names : (key name : List ℕ) (names now : List (List ℕ))
    → name ≡ key → (Contains names key → ⊥)
    → now ≡ cond (list_any (bytes_eq name) names) names (names ++ name ∷ [])
    → now ≡ names ++ key ∷ []
more_names key name names now is fresh inserted =
    let none : list_any (bytes_eq name) names ≡ false
    = ap (λ (text : List ℕ). list_any (bytes_eq text) names) is ∙ none_among key names fresh in
    inserted ∙ ap (λ (b : Bool). cond b names (names ++ name ∷ [])) none
    ∙ ap (λ (text : List ℕ). names ++ text ∷ []) is

module _ {R : Type 0} where
  -- it and its follower
  pub AreKept-more : (names now : List (List ℕ)) (followers reserved after : List R)
      (key : List ℕ) (x : R) → AreKept names followers → (Contains names key → ⊥)
      → now ≡ names ++ key ∷ [] → after ≡ reserved ++ x ∷ [] → reserved ≡ followers
      → AreKept now after
  AreKept-more names now followers reserved after key x was fresh is pushed as_before =
      let are : after ≡ followers ++ x ∷ [] =
      pushed ∙ ap (λ (ys : List R). ys ++ x ∷ []) as_before in
      let before = was.each in
      let longer = ap (λ (xs : List (List ℕ)). length xs) is in
      let more = ap (λ (ys : List R). length ys) are in
      let names_count = length-append names (key ∷ []) in
      let followers_count = length-append followers (x ∷ []) in
      record {
        distinct = subst (IsDistinct bytes_eq) (sym is)
            (IsDistinct-push nat_list_eq_equiv names key was.distinct (none_among key names fresh));
        each = omega (arith, before, longer, more, names_count, followers_count);
      }

-- an answer by the places of names is one by the keys
pub found_there : (place : Option ℕ) (key : List ℕ) (names : List (List ℕ)) (texts : List (List ℕ))
    → place ≡ position (bytes_eq key) names → names ≡ texts
    → IfSome place (λ i. slice_get texts i ≡ Some key)
found_there None key names texts is same = tt
found_there (Some i) key names texts is same =
    subst (λ (xs : List (List ℕ)). slice_get xs i ≡ Some key) same
    (there key names i (sym (position_from-zero (bytes_eq key) names) ∙ sym is))

pub none_there : (place : Option ℕ) (key : List ℕ) (names : List (List ℕ)) (texts : List (List ℕ))
    → place ≡ position (bytes_eq key) names → names ≡ texts
    → IfNone place (Contains texts key → ⊥)
none_there None key names texts is same =
    subst (λ (xs : List (List ℕ)). Contains xs key → ⊥) same
    (absent key names
    (nowhere key names 0 (sym (position_from-zero (bytes_eq key) names) ∙ sym is)))
none_there (Some i) key names texts is same = tt

module _ {R : Type 0} where
  -- no key yet
  pub AreKept-none : (names : List (List ℕ)) (followers : List R)
      → names ≡ [] → followers ≡ [] → AreKept names followers
  unfolding IsDistinct
  AreKept-none names followers no_names no_followers =
      subst (λ (xs : List (List ℕ)). AreKept xs followers) (sym no_names)
      (subst (λ (ys : List R). AreKept [] ys) (sym no_followers)
      (record { distinct = tt; each = refl }))

  -- the lists with one more key and its follower
  pub grown : (seen now : Followers R) (names : List (List ℕ)) (followers reserved : List R)
      (key : List ℕ) (x : R) → seen ≡ now → names ≡ seen.names ++ key ∷ []
      → followers ≡ reserved ++ x ∷ [] → reserved ≡ seen.followers
      → ◌≡◌ {A = Followers R} (record { names = names; followers = followers }) (with_key key x now)
  grown seen now names followers reserved key x same named pushed as_before =
      let followed : followers ≡ seen.followers ++ x ∷ []
      = pushed ∙ ap (λ (ys : List R). ys ++ x ∷ []) as_before in
      ap (λ (ns : List (List ℕ)). record { names = ns; followers = followers }) named
      ∙ ap (λ (fs : List R). record { names = seen.names ++ key ∷ []; followers = fs }) followed
      ∙ ap (λ (s : Followers R). with_key key x s) same
