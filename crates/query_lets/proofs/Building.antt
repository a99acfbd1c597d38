-- A map of the places of lets, one let after another.
use Rattle.std.proofs.Common.{◌≡◌, ℕ, zero, suc, ◌+◌, ◌<◌, Bool, true, false, cond, is_some, List}
use Rattle.std.proofs.Common.{[], ◌∷◌, ◌++◌, length, map, get_or, take, drop, drop-cons, add-one}
use Rattle.std.proofs.Common.{Bor, bytes_eq, Option, Some, None, unwrap_or, refl, sym, ap, subst}
use Rattle.std.proofs.Common.{◌∙◌, ◌⊎◌, inl, inr, ⊎_elim, ◌||◌, length-append, slice_get}
use Rattle.std.proofs.Common.{length-take-le, arith}
use Rattle.std.proofs.lemmas.Bool.{false_from_ne_true}
use Rattle.std.proofs.lemmas.List.{length-map}
use Rattle.std.proofs.lemmas.Option.{slice_get_within}
use Rattle.std.specs.Cmp.Lexicographic.{bytes_decides}
use Rattle.std.specs.HashMap as hash
use Rattle.std.specs.HashMap.{HashMap, get_by}
use Rattle.std.specs.Map.{lookup}
use Rattle.query_syntax.specs.declared.program.Let as raw
use Rattle.query_syntax.specs.Plain.{plain_let}
use Rattle.query_syntax.specs.Programs.{Let}
use Rattle.query_lets.specs.Places.{AreNamedApart, ArePlaces}
use Rattle.query_lets.specs.Words.{is_known}
use Rattle.query_lets.proofs.Bound.{lets_more}
use Rattle.query_lets.proofs.Keys.{changed}

-- the place of a name
abbrev pub place_of : {S : Type 0} → HashMap (Bor (List ℕ)) ℕ S → List ℕ → Option ℕ
place_of places name = get_by (λ k. bytes_eq name k.now) places

-- the map has the places of the lets before, and the later ones have other names
pub record AreBuilt {S : Type 0} (places : HashMap (Bor (List ℕ)) ℕ S)
    (before after : List Let) : Type 0 where
  pub are : ArePlaces places before
  pub within : (name : List ℕ) (place : ℕ) → place_of places name ≡ Some place
      → place < length before
  pub names : List (List ℕ)
  pub known : (name : List ℕ) → is_known names name ≡ is_some (place_of places name)
  pub apart : AreNamedApart names after

-- at first there are none
pub built_none : {S : Type 0} (places : HashMap (Bor (List ℕ)) ℕ S) (lets : List Let)
    → hash.IsEmpty places → AreNamedApart [] lets → AreBuilt places [] lets
built_none places lets empty apart =
    let none : (name : List ℕ) → place_of places name ≡ None =
    λ name. ap (lookup (λ k. bytes_eq name k.now)) empty in
    record {
      are = λ place one at. absurd (cc (at));
      within = λ name place is. absurd (cc (none name, is));
      names = [];
      known = λ name. sym (ap is_some (none name));
      apart = apart;
    }

-- what a list with one thing more has
last_or : {X : Type 0} (xs : List X) (y : X) (place : ℕ) (x : X)
    → slice_get (xs ++ y ∷ []) place ≡ Some x
    → (slice_get xs place ≡ Some x) ⊎ ((place ≡ length xs) × (y ≡ x))
last_or [] y zero x at = inr (refl, ap (λ o. unwrap_or o y) at)
last_or [] y (suc place) x at = absurd (cc)
last_or (first ∷ xs) y zero x at = inl at
last_or (first ∷ xs) y (suc place) x at =
    ⊎_elim (λ here. inl here) (λ (is, same). inr (ap suc is, same)) (last_or xs y place x at)

module _ {S : Type 0} (old new : HashMap (Bor (List ℕ)) ℕ S) (before after : List Let) (one : Let)
    (built : AreBuilt old before (one ∷ after))
    (more : (name : List ℕ) → place_of new name
    ≡ cond (bytes_eq name one.name.bytes) (Some (length before)) (place_of old name)) where
  -- the let is new
  new_name : place_of old one.name.bytes ≡ None
  new_name = none (place_of old one.name.bytes) (sym (built.known one.name.bytes) ∙ built.apart.0)
    where
      none : (found : Option ℕ) → is_some found ≡ false → found ≡ None
      none None is = refl
      none (Some place) is = absurd (cc)

  -- a name has its place, or is that of the let
  other_or : (test : Bool) (place : ℕ) (found : Option ℕ)
      → cond test (Some (length before)) found ≡ Some place
      → ((test ≡ true) × (place ≡ length before)) ⊎ (found ≡ Some place)
  other_or true place found is = inl (refl, sym (ap (λ o. unwrap_or o (length before)) is))
  other_or false place found is = inr is

  -- a let before has another name
  other_name : (place : ℕ) (other : Let) → slice_get before place ≡ Some other
      → bytes_eq other.name.bytes one.name.bytes ≡ false
  other_name place other at = false_from_ne_true (bytes_eq other.name.bytes one.name.bytes)
      (λ same. let is = ap (place_of old)
      ((bytes_decides other.name.bytes one.name.bytes).0 same) in
      let there = (built.are place other at).0 in
      cc (new_name, is, there))

  -- each let before, and this one, is in its place
  own : (place : ℕ) (other : Let) → slice_get (before ++ one ∷ []) place ≡ Some other
      → place_of new other.name.bytes ≡ Some place
  own place other at = ⊎_elim
      (λ here. more other.name.bytes
      ∙ ap (λ (test : Bool). cond test (Some (length before)) (place_of old other.name.bytes))
      (other_name place other here)
      ∙ (built.are place other here).0)
      (λ (is, same). more other.name.bytes
      ∙ ap (λ (test : Bool). cond test (Some (length before)) (place_of old other.name.bytes))
      ((bytes_decides other.name.bytes one.name.bytes).1
      (ap (λ (l : Let). l.name.bytes) (sym same)))
      ∙ ap Some (sym is))
      (last_or before one place other at)

  -- and no other name is
  only : (place : ℕ) (other : Let) → slice_get (before ++ one ∷ []) place ≡ Some other
      → (name : List ℕ) → place_of new name ≡ Some place → name ≡ other.name.bytes
  only place other at name is = ⊎_elim
      (λ (test, there). (bytes_decides name one.name.bytes).0 test
      ∙ ap (λ (l : Let). l.name.bytes) (this there))
      (λ found. ⊎_elim (λ here. (built.are place other here).1 name found)
      (λ (there, same). let far = built.within name place found in absurd (omega arith))
      (last_or before one place other at))
      (other_or (bytes_eq name one.name.bytes) place (place_of old name) (sym (more name) ∙ is))
    where
      this : place ≡ length before → one ≡ other
      this there = ⊎_elim (λ here. let far = slice_get_within before place other here in
          absurd (omega arith))
          (λ (is, same). same)
          (last_or before one place other at)

  -- one let more
  pub built_more : AreBuilt new (before ++ one ∷ []) after
  built_more = record {
    are = λ place other at. (own place other at, only place other at);
    within = λ name place is. ⊎_elim
        (λ (test, there). let long = length-append before (one ∷ []) in omega arith)
        (λ found. let far = built.within name place found in
        let long = length-append before (one ∷ []) in
        omega arith)
        (other_or (bytes_eq name one.name.bytes) place (place_of old name) (sym (more name) ∙ is));
    names = one.name.bytes ∷ built.names;
    known = λ name. ap (λ (b : Bool). bytes_eq name one.name.bytes || b) (built.known name)
        ∙ chosen (bytes_eq name one.name.bytes) (length before) (place_of old name)
        ∙ ap is_some (sym (more name));
    apart = built.apart.1;
  }
    where
      chosen : (test : Bool) (place : ℕ) (found : Option ℕ) → (test || is_some found)
          ≡ is_some (cond test (Some place) found)
      chosen true place found = refl
      chosen false place found = refl

-- the step of a loop over lets
pub built_step : {S : Type 0} (old new : HashMap (Bor (List ℕ)) ℕ S) (lets : List raw.Let)
    (at : ℕ) (one : raw.Let) → one ≡ get_or lets at one → at < length lets → (name : Bor (List ℕ))
    → name.now ≡ one.name.bytes
    → AreBuilt old (map plain_let (take at lets)) (map plain_let (drop at lets))
    → hash.Updates (λ x y. bytes_eq x.now y.now) old new name (Some at)
    → AreBuilt new (map plain_let (take (at + 1) lets)) (map plain_let (drop (at + 1) lets))
built_step old new lets at one is_at within name is_name built updates =
    let long : length (map plain_let (take at lets)) ≡ at = length-map (take at lets) plain_let
    ∙ length-take-le at lets (omega arith) in
    let more : (other : List ℕ) → place_of new other
    ≡ cond (bytes_eq other one.name.bytes) (Some (length (map plain_let (take at lets))))
    (place_of old other) =
    λ other. changed old new name at updates other
    ∙ ap (λ (n : List ℕ). cond (bytes_eq other n) (Some at) (place_of old other)) is_name
    ∙ ap (λ (n : ℕ). cond (bytes_eq other one.name.bytes) (Some n) (place_of old other))
    (sym long) in
    let left : drop at lets ≡ one ∷ drop (at + 1) lets = drop-cons lets at one within
    ∙ (rw (← is_at, add-one) refl) in
    let here : AreBuilt old (map plain_let (take at lets))
    (plain_let one ∷ map plain_let (drop (at + 1) lets)) =
    subst (λ (l : List raw.Let). AreBuilt old (map plain_let (take at lets)) (map plain_let l)) left
    built in
    let next = built_more old new (map plain_let (take at lets))
    (map plain_let (drop (at + 1) lets)) (plain_let one) here more in
    subst (λ (l : List Let). AreBuilt new l (map plain_let (drop (at + 1) lets)))
    (sym (lets_more lets at one is_at within)) next
