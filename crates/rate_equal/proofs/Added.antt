-- How pairs are put after others, with the places of some of them.
use Rattle.std.proofs.Common.{◌≡◌, ℕ, ◌<◌, ◌≤◌, ◌∙◌, Bool, true, List, [], ◌++◌, length, get_or}
use Rattle.std.proofs.Common.{slice_get, Some, refl, sym, ap, subst, inl, inr, arith, append_assoc}
use Rattle.std.proofs.Common.{length-append}
use Rattle.std.specs.List.{Contains, IsDistinct}
use Rattle.std.proofs.lemmas.List.{append-nil, get_or_append_left}
use Rattle.std.proofs.lemmas.List.Elements.{Contains-append_left}
use Rattle.std.proofs.lemmas.Option.{get_or_from_slice_get, same_Some, slice_get-get_or}
use Rattle.std.proofs.lemmas.Option.{slice_get_within}
use Rattle.indexmap.specs.IndexSet.{insert_key}
use Rattle.rate_equal.specs.Added.{HasPair, AreAdded, AreTooMany}
use Rattle.rate_equal.specs.Pairs.{IsGrown}
use Rattle.rate_equal.specs.PlaceSets.{AddsPlace}
use Rattle.rate_equal.specs.Reach.{max_reach}
use Rattle.rate_equal.specs.declared.pair.Pair.{Pair}
use Rattle.rate_equal.proofs.Inserted.{put_after}

-- a list with nothing after it
pub grown_none : (old : List Pair) → IsGrown old old
grown_none old = ([], sym (append-nil old))

-- what comes after what comes after
pub grown_more : (old mid new : List Pair) → IsGrown old mid → IsGrown mid new → IsGrown old new
grown_more old mid new one two =
    (one.0 ++ two.0, two.1 ∙ ap (λ l. l ++ two.0) one.1 ∙ append_assoc old one.0 two.0)

-- it is no shorter
pub length_grown : (old new : List Pair) → IsGrown old new → length old ≤ length new
length_grown old new grown = omega (arith, ap length grown.1, length-append old grown.0)

-- and has what was there
pub contains_grown : (old new : List Pair) (pair : Pair) → IsGrown old new → Contains old pair
    → Contains new pair
contains_grown old new pair grown c =
    subst (λ l. Contains l pair) (sym grown.1) (Contains-append_left old grown.0 pair c)

-- at its place
pub found_grown : (old new : List Pair) (place : ℕ) (pair : Pair) → IsGrown old new
    → slice_get old place ≡ Some pair → slice_get new place ≡ Some pair
found_grown old new place pair grown found =
    let within = slice_get_within old place pair found in
    let longer : place < length (old ++ grown.0) = omega (arith, length-append old grown.0) in
    subst (λ l. slice_get l place ≡ Some pair) (sym grown.1)
    (slice_get-get_or (old ++ grown.0) place pair longer
    ∙ ap Some (get_or_append_left old grown.0 pair place within
    ∙ get_or_from_slice_get old place pair pair found))

-- so what is now at a place that there was before was there
pub found_before : (old new : List Pair) (place : ℕ) (pair : Pair) → IsGrown old new
    → place < length old → slice_get new place ≡ Some pair → slice_get old place ≡ Some pair
found_before old new place pair grown within found =
    let at : slice_get old place ≡ Some (get_or old place pair) =
    slice_get-get_or old place pair within in
    let same : get_or old place pair ≡ pair =
    same_Some (get_or old place pair) pair
    (sym (found_grown old new place (get_or old place pair) grown at) ∙ found) in
    at ∙ ap Some same

-- what stands at a place is in the list
pub contains_found : {A : Type 0} (xs : List A) (place : ℕ) (x : A)
    → slice_get xs place ≡ Some x → Contains xs x
contains_found xs place x found =
    (place, slice_get_within xs place x found, get_or_from_slice_get xs place x x found)

-- nothing yet
pub added_none : (wanted placed : Pair → Type 0) (old : List Pair) (held : List ℕ)
    → length old ≤ max_reach → AreAdded wanted placed old held old held
added_none wanted placed old held few = record {
  grown = grown_none old;
  each = λ pair c. inl c;
  few = few;
  kept = λ place has. has;
  more = λ place has. inl has;
}

module _ (wanted placed also there : Pair → Type 0) (old mid : List Pair) (held between : List ℕ)
    (before : AreAdded wanted placed old held mid between)
    (is_wanted : (pair : Pair) → also pair → wanted pair) where
  -- some more
  pub added_more : ((pair : Pair) → there pair → placed pair) → (new : List Pair) (places : List ℕ)
      → AreAdded also there mid between new places → AreAdded wanted placed old held new places
  added_more is_placed new places added = record {
    grown = grown_more old mid new before.grown added.grown;
    each = λ pair c. elim (added.each pair c) [
      | inl was ↦ before.each pair was
      | inr is ↦ inr (is_wanted pair is)
    ];
    few = added.few;
    kept = λ place has. added.kept place (before.kept place has);
    more = λ place has. elim (added.more place has) [
      | inl was ↦ elim (before.more place was) [
        | inl first ↦ inl first
        | inr (pair, found, is) ↦ inr (pair, found_grown mid new place pair added.grown found, is)
      ]
      | inr (pair, found, is) ↦ inr (pair, found, is_placed pair is)
    ];
  }

module _ (wanted placed also : Pair → Type 0) (old mid : List Pair) (held between : List ℕ)
    (before : AreAdded wanted placed old held mid between)
    (is_wanted : (pair : Pair) → also pair → wanted pair) where
  -- too many now are too many from the beginning
  pub too_many_more : AreTooMany mid also → AreTooMany old wanted
  too_many_more many = record {
    eq = many.eq;
    unlike = many.unlike;
    pairs = many.pairs;
    distinct = many.distinct;
    count = many.count;
    each = λ pair c. elim (many.each pair c) [
      | inl was ↦ before.each pair was
      | inr is ↦ inr (is_wanted pair is)
    ];
  }

-- a pair whose place is in the set stays so
pub pair_kept : (also there : Pair → Type 0) (mid new : List Pair)
    (between places : List ℕ) (pair : Pair) → AreAdded also there mid between new places
    → HasPair mid between pair → HasPair new places pair
pair_kept also there mid new between places pair added has = record {
  place = has.place;
  found = found_grown mid new has.place pair added.grown has.found;
  has = added.kept has.place has.has;
}

-- one pair and its place, by the equality that distinguishes the pairs
pub added_one : (eq : Pair → Pair → Bool) (old new : List Pair) (pair : Pair)
    (held places : List ℕ) (place : ℕ) → IsDistinct eq new → new ≡ insert_key eq old pair
    → ((x y : Pair) → eq x y ≡ true → x ≡ y) → length new ≤ max_reach
    → (k : Pair) × (slice_get new place ≡ Some k) × (eq pair k ≡ true) → AddsPlace held places place
    → AreAdded (λ other. pair ≡ other) (λ other. pair ≡ other) old held new places
added_one eq old new pair held places place distinct put_in same few (k, found, is) adds = record {
  grown = let put = put_after eq old pair in (put.0, put_in ∙ put.1);
  each = λ other c. (put_after eq old pair).2 other (subst (λ l. Contains l other) put_in c);
  few = few;
  kept = λ other has. (adds other).1 (inl has);
  more = λ other has. elim ((adds other).0 has) [
    | inl was ↦ inl was
    | inr here ↦ inr (
      pair,
      subst (λ (p : ℕ). slice_get new p ≡ Some pair) here (found ∙ ap Some (sym (same pair k is))),
      refl,
    )
  ];
}

-- the place of a pair that is there
pub place_added : (wanted placed : Pair → Type 0) (pairs : List Pair) (pair : Pair)
    (held places : List ℕ) (place : ℕ) → length pairs ≤ max_reach
    → slice_get pairs place ≡ Some pair → placed pair → AddsPlace held places place
    → AreAdded wanted placed pairs held pairs places
place_added wanted placed pairs pair held places place few found is adds = record {
  grown = grown_none pairs;
  each = λ other c. inl c;
  few = few;
  kept = λ other has. (adds other).1 (inl has);
  more = λ other has. elim ((adds other).0 has) [
    | inl was ↦ inl was
    | inr here ↦ inr (pair, subst (λ (p : ℕ). slice_get pairs p ≡ Some pair) here found, is)
  ];
}
