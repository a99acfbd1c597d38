-- Entries by their places in a list.
use Rattle.std.proofs.Common.{◌≡◌, ◌≢◌, ◌==◌, ◌+◌, ◌<◌, ◌∙◌, ℕ, zero, suc, Bool, true, false, cond}
use Rattle.std.proofs.Common.{not, List, [], ◌∷◌, Option, Some, None, get_or, remove, slice_get}
use Rattle.std.proofs.Common.{length, refl, sym, ap, subst, arith}
use Rattle.std.specs.List.{position_from}
use Rattle.std.proofs.lemmas.Bool.{eqb-true, eq-eqb, ne_eqb}
use Rattle.std.proofs.lemmas.Option.{none-some, same_Some, get_or_from_slice_get}
use Rattle.split_eval.specs.Entries.{entry_at, is_at, without, AreDistinct}
use Rattle.split_eval.specs.declared.entry.Entry.{Entry}
use Rattle.split_eval.proofs.Found.{first_differs, found_after, found_first, none_after}
use Rattle.split_eval.proofs.Found.{without-none}

module _ {V : Type 0} where
  -- at the inner start of an entry something is found
  present : (es : List (Entry V)) (i : ℕ) (e : Entry V) → slice_get es i ≡ Some e
      → entry_at es e.inner ≡ None → ⊥
  present [] i e at none = none-some e at
  present (x ∷ es) zero e at none =
      first_differs x es e.inner none (ap (λ (y : Entry V). y.inner) (same_Some x e at))
  present (x ∷ es) (suc i) e at none = present es i e at (none_after x es e.inner none)

  -- the first of distinct entries has another inner start than one after it
  differs_after : (x : Entry V) (es : List (Entry V)) (i : ℕ) (e : Entry V)
      → AreDistinct (x ∷ es) → slice_get es i ≡ Some e → x.inner ≢ e.inner
  differs_after x es i e distinct at is =
      present es i e at (ap (λ (start : ℕ). entry_at es start) (sym is) ∙ distinct.0)

  -- each of distinct entries is found at its inner start
  pub entry_at-place : (es : List (Entry V)) (i : ℕ) (e : Entry V) → AreDistinct es
      → slice_get es i ≡ Some e → entry_at es e.inner ≡ Some e
  entry_at-place [] i e distinct at = absurd (none-some e at)
  entry_at-place (x ∷ es) zero e distinct at =
      found_first x es e.inner (ap (λ (y : Entry V). y.inner) (same_Some x e at)) ∙ at
  entry_at-place (x ∷ es) (suc i) e distinct at =
      found_after x es e.inner (differs_after x es i e distinct at)
      ∙ entry_at-place es i e distinct.1 at

  -- and once it is removed, those with another inner start are left
  pub remove-place : (es : List (Entry V)) (i : ℕ) (e : Entry V) → AreDistinct es
      → slice_get es i ≡ Some e → remove es i ≡ without es e.inner
  remove-place [] i e distinct at = absurd (none-some e at)
  remove-place (x ∷ es) zero e distinct at =
      let is : x.inner ≡ e.inner = ap (λ (y : Entry V). y.inner) (same_Some x e at) in
      let none : entry_at es e.inner ≡ None
      = ap (λ (start : ℕ). entry_at es start) (sym is) ∙ distinct.0 in
      sym (without-none es e.inner none)
      ∙ sym
      (ap
      (λ (same : Bool). cond (not same) (x ∷ without es e.inner) (without es e.inner))
      (eq-eqb x.inner e.inner is))
  remove-place (x ∷ es) (suc i) e distinct at =
      ap (λ (rest : List (Entry V)). x ∷ rest) (remove-place es i e distinct.1 at)
      ∙ sym
      (ap
      (λ (same : Bool). cond (not same) (x ∷ without es e.inner) (without es e.inner))
      (ne_eqb x.inner e.inner (differs_after x es i e distinct at)))

  none_first : (passes : Bool) (i : ℕ) (x : Entry V) (place : Option ℕ) (found : Option (Entry V))
      → (place ≡ None → found ≡ None) → cond passes (Some i) place ≡ None
      → cond passes (Some x) found ≡ None
  none_first true i x place found after none = absurd (none-some i (sym none))
  none_first false i x place found after none = after none

  no_place : (inner i : ℕ) (es : List (Entry V))
      → position_from (is_at inner) i es ≡ None → entry_at es inner ≡ None
  no_place inner i [] none = refl
  no_place inner i (x ∷ es) none =
      none_first (x.inner == inner) i x (position_from (is_at inner) (i + 1) es)
      (entry_at es inner) (no_place inner (i + 1) es) none

  -- where no place is found, no entry is
  pub nothing_there : (inner : ℕ) (es seen : List (Entry V)) → seen ≡ es
      → None ≡ position_from (is_at inner) 0 seen → entry_at es inner ≡ None
  nothing_there inner es seen same none =
      ap (λ (xs : List (Entry V)). entry_at xs inner) (sym same) ∙ no_place inner 0 seen (sym none)

  -- what stands so far after a place
  pub record IsPlace (es : List (Entry V)) (inner from place : ℕ) : Type 0 where
    pub at : ℕ
    pub entry : Entry V
    pub is : place ≡ from + at
    pub inside : at < length es
    pub there : slice_get es at ≡ Some entry
    pub starts : entry.inner ≡ inner

  place_first : (passes : Bool) (x : Entry V) (es : List (Entry V)) (inner from place : ℕ)
      → (x.inner == inner) ≡ passes
      → (position_from (is_at inner) (from + 1) es ≡ Some place
      → IsPlace es inner (from + 1) place)
      → cond passes (Some from) (position_from (is_at inner) (from + 1) es)
      ≡ Some place
      → IsPlace (x ∷ es) inner from place
  place_first true x es inner from place same after some = record {
    at = zero;
    entry = x;
    is = let e = same_Some from place some in omega (arith, e);
    inside = omega arith;
    there = refl;
    starts = eqb-true x.inner inner same;
  }
  place_first false x es inner from place same after some =
      let rest = after some in
      record {
        at = suc rest.at;
        entry = rest.entry;
        is = let e = rest.is in omega (arith, e);
        inside = let below = rest.inside in omega (arith, below);
        there = rest.there;
        starts = rest.starts;
      }

  some_place : (inner from place : ℕ) (es : List (Entry V))
      → position_from (is_at inner) from es ≡ Some place
      → IsPlace es inner from place
  some_place inner from place [] some = absurd (none-some place some)
  some_place inner from place (x ∷ es) some =
      place_first (x.inner == inner) x es inner from place refl
      (some_place inner (from + 1) place es) some

  -- a place that is found is a place of the list
  pub place_inside : (inner place : ℕ) (es seen : List (Entry V)) → seen ≡ es
      → Some place ≡ position_from (is_at inner) 0 seen → place < length es
  place_inside inner place es seen same some =
      let spot = some_place inner 0 place seen (sym some) in
      let is = spot.is in
      let inside = spot.inside in
      let long = ap (λ (xs : List (Entry V)). length xs) same in
      omega (arith, is, inside, long)

  -- the entry at an inner start is e, and the others are left
  pub record IsTaken (es : List (Entry V)) (inner : ℕ) (e : Entry V)
      (left : List (Entry V)) : Type 0 where
    pub found : entry_at es inner ≡ Some e
    pub others : left ≡ without es inner

  -- that at the place that is found, where the entries are distinct
  pub is_taken : (es seen : List (Entry V)) (inner place : ℕ) (e : Entry V) → AreDistinct es
      → seen ≡ es → Some place ≡ position_from (is_at inner) 0 seen
      → e ≡ get_or es place e → (left : List (Entry V)) → left ≡ remove es place
      → IsTaken es inner e left
  is_taken es seen inner place e distinct alike some read left removed =
      let spot = some_place inner 0 place es
      (ap (λ (xs : List (Entry V)). position_from (is_at inner) 0 xs) (sym alike) ∙ sym some) in
      let is : spot.at ≡ place = (let e = spot.is in omega (arith, e)) in
      let there : slice_get es place ≡ Some spot.entry
      = subst (λ (at : ℕ). slice_get es at ≡ Some spot.entry) is spot.there in
      let same : spot.entry ≡ e = sym (read ∙ get_or_from_slice_get es place spot.entry e there) in
      let starts : e.inner ≡ inner = ap (λ (y : Entry V). y.inner) (sym same) ∙ spot.starts in
      let shown : slice_get es place ≡ Some e = there ∙ ap (λ (y : Entry V). Some y) same in
      record {
        found = subst (λ (start : ℕ). entry_at es start ≡ Some e) starts
            (entry_at-place es place e distinct shown);
        others = subst (λ (start : ℕ). left ≡ without es start) starts
            (removed ∙ remove-place es place e distinct shown);
      }
