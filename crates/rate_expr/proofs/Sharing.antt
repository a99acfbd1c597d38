-- Lists of predicates of which equal ones are kept once.
use Rattle.std.proofs.Common.{◌≡◌, ◌⊎◌, inl, inr, ℕ, zero, suc, ◌+◌, ◌<◌, List, [], ◌∷◌, ◌++◌, Some}
use Rattle.std.proofs.Common.{length, map, take, get_or, slice_get, append_assoc, refl, sym, ap}
use Rattle.std.proofs.Common.{◌∙◌, subst, arith}
use Rattle.std.proofs.Math.ListN.{get_or-append}
use Rattle.std.proofs.lemmas.List.{map-append, length_push, get_or_push, take_more}
use Rattle.std.proofs.lemmas.Option.{get_or_from_slice_get, slice_get-get_or, slice_get-map}
use Rattle.std.proofs.lemmas.Option.{slice_get_within}
use Rattle.std.specs.List.{Contains}
use Rattle.std.specs.Option.{option_map}
use Rattle.predicates.specs.Predicates.{Predicate, any}
use Rattle.rate_expr.specs.Shared.{Shared, listed, AreShared}
use Rattle.rate_expr.proofs.MaskSets.{below-more}

-- one element after others
pub got_before : {X : Type 0} (xs : List X) (x y : X) (i : ℕ) → slice_get xs i ≡ Some y
    → slice_get (xs ++ x ∷ []) i ≡ Some y
got_before [] x y i found = absurd (cc)
got_before (first ∷ xs) x y zero found = found
got_before (first ∷ xs) x y (suc i) found = got_before xs x y i found

pub got_after : {X : Type 0} (xs : List X) (x : X) → slice_get (xs ++ x ∷ []) (length xs) ≡ Some x
got_after [] x = refl
got_after (first ∷ xs) x = got_after xs x

pub got_push : {X : Type 0} (xs : List X) (x y : X) (i : ℕ) → slice_get (xs ++ x ∷ []) i ≡ Some y
    → (slice_get xs i ≡ Some y) ⊎ ((i ≡ length xs) × (x ≡ y))
got_push [] x y zero found = inr (refl, cc)
got_push [] x y (suc i) found = absurd (cc)
got_push (first ∷ xs) x y zero found = inl found
got_push (first ∷ xs) x y (suc i) found = further (got_push xs x y i found)
  where
    further : (slice_get xs i ≡ Some y) ⊎ ((i ≡ length xs) × (x ≡ y))
        → (slice_get xs i ≡ Some y) ⊎ ((suc i ≡ suc (length xs)) × (x ≡ y))
    further (inl before) = inl before
    further (inr (at, same)) = inr (ap suc at, same)

-- a predicate at a position is kept at its place
pub listed_at : (shared : Shared) (position place : ℕ) (pred : Predicate)
    → slice_get shared.places position ≡ Some place → slice_get shared.distinct place ≡ Some pred
    → slice_get (listed shared) position ≡ Some pred
listed_at shared position place pred at kept =
    slice_get-map (λ (p : ℕ). get_or shared.distinct p any) shared.places position
    ∙ ap (option_map (λ (p : ℕ). get_or shared.distinct p any)) at
    ∙ ap Some (get_or_from_slice_get shared.distinct place pred any kept)

-- each of the list is at some place
place_in : (distinct : List Predicate) (places : List ℕ) (position : ℕ) (pred : Predicate)
    → slice_get (map (λ place. get_or distinct place any) places) position ≡ Some pred
    → (place : ℕ) × (slice_get places position ≡ Some place) × (get_or distinct place any ≡ pred)
place_in distinct [] position pred found = absurd (cc)
place_in distinct (place ∷ places) zero pred found = (place, refl, cc)
place_in distinct (place ∷ places) (suc position) pred found =
    place_in distinct places position pred found

pub place_at : (shared : Shared) (position : ℕ) (pred : Predicate)
    → AreShared shared → slice_get (listed shared) position ≡ Some pred
    → (place : ℕ) × (slice_get shared.places position ≡ Some place)
    × (slice_get shared.distinct place ≡ Some pred)
place_at shared position pred are found =
    let at = place_in shared.distinct shared.places position pred found in (
      at.0,
      at.1,
      slice_get-get_or shared.distinct at.0 any (are.within position at.0 at.1) ∙ ap Some at.2,
    )

-- one more predicate leaves the list as it was
picked_more : (distinct : List Predicate) (pred : Predicate) (places : List ℕ)
    → ((position place : ℕ) → slice_get places position ≡ Some place → place < length distinct)
    → map (λ place. get_or (distinct ++ pred ∷ []) place any) places
    ≡ map (λ place. get_or distinct place any) places
picked_more distinct pred [] within = refl
picked_more distinct pred (place ∷ places) within =
    let first = get_or-append distinct (pred ∷ []) any place (within zero place refl) in
    let rest = picked_more distinct pred places
    (λ position other at. within (suc position) other at) in
    cc

-- a known predicate at one more position
abbrev pub with_known : Shared → ℕ → Shared
with_known shared place =
    record { distinct = shared.distinct; places = shared.places ++ place ∷ [] }

pub listed_known : (shared : Shared) (place : ℕ) (pred : Predicate)
    → slice_get shared.distinct place ≡ Some pred
    → listed (with_known shared place) ≡ listed shared ++ pred ∷ []
listed_known shared place pred kept =
    map-append (λ (p : ℕ). get_or shared.distinct p any) shared.places (place ∷ [])
    ∙ ap (λ (x : Predicate). listed shared ++ x ∷ [])
    (get_or_from_slice_get shared.distinct place pred any kept)

pub shared_known : (shared : Shared) (place : ℕ) (pred : Predicate) → AreShared shared
    → slice_get shared.distinct place ≡ Some pred → AreShared (with_known shared place)
shared_known shared place pred are kept = record {
  within = λ position other at. within other (got_push shared.places place other position at);
  once = are.once;
  used = λ other below. let at = are.used other below in
      (at.0, got_before shared.places place other at.0 at.1);
}
  where
    within : {position : ℕ} (other : ℕ) → (slice_get shared.places position ≡ Some other)
        ⊎ ((position ≡ length shared.places) × (place ≡ other)) → other < length shared.distinct
    within {position = position} other (inl before) = are.within position other before
    within other (inr (at, same)) =
        subst (λ (n : ℕ). n < length shared.distinct) same
        (slice_get_within shared.distinct place pred kept)

-- a new predicate at one more position
abbrev pub with_new : Shared → Predicate → Shared
with_new shared pred = record {
  distinct = shared.distinct ++ pred ∷ [];
  places = shared.places ++ length shared.distinct ∷ [];
}

pub listed_new : (shared : Shared) (pred : Predicate) → AreShared shared
    → listed (with_new shared pred) ≡ listed shared ++ pred ∷ []
listed_new shared pred are =
    map-append (λ (p : ℕ). get_or (shared.distinct ++ pred ∷ []) p any) shared.places
    (length shared.distinct ∷ [])
    ∙ ap (λ (xs : List Predicate). xs
    ++ get_or (shared.distinct ++ pred ∷ []) (length shared.distinct) any ∷ [])
    (picked_more shared.distinct pred shared.places are.within)
    ∙ ap (λ (x : Predicate). listed shared ++ x ∷ [])
    (get_or_push shared.distinct pred any (length shared.distinct) refl)

pub shared_new : (shared : Shared) (pred : Predicate) → AreShared shared
    → (Contains shared.distinct pred → ⊥) → AreShared (with_new shared pred)
shared_new shared pred are new = record {
  within = λ position place at. within position place
      (got_push shared.places (length shared.distinct) place position at);
  once = λ place other p at also. once place other p
      (got_push shared.distinct pred p place at) (got_push shared.distinct pred p other also);
  used = λ place below. used place (below-more place (length shared.distinct)
      (let long = length_push shared.distinct pred in omega arith));
}
  where
    within : (position place : ℕ) → (slice_get shared.places position ≡ Some place)
        ⊎ ((position ≡ length shared.places) × (length shared.distinct ≡ place))
        → place < length (shared.distinct ++ pred ∷ [])
    within position place (inl before) =
        let below = are.within position place before in
        let long = length_push shared.distinct pred in omega arith
    within position place (inr (at, same)) =
        let long = length_push shared.distinct pred in omega arith

    is_new : (place : ℕ) (p : Predicate) → slice_get shared.distinct place ≡ Some p → pred ≡ p → ⊥
    is_new place p at same = new (
      place,
      slice_get_within shared.distinct place p at,
      get_or_from_slice_get shared.distinct place pred pred (at ∙ ap Some (sym same)),
    )

    once : (place other : ℕ) (p : Predicate) → (slice_get shared.distinct place ≡ Some p)
        ⊎ ((place ≡ length shared.distinct) × (pred ≡ p))
        → (slice_get shared.distinct other ≡ Some p)
        ⊎ ((other ≡ length shared.distinct) × (pred ≡ p)) → other ≡ place
    once place other p (inl at) (inl also) = are.once place other p at also
    once place other p (inl at) (inr (after, same)) = absurd (is_new place p at same)
    once place other p (inr (after, same)) (inl also) = absurd (is_new other p also same)
    once place other p (inr (after, same)) (inr (too, also)) = too ∙ sym after

    used : (place : ℕ) → (place ≡ length shared.distinct) ⊎ (place < length shared.distinct)
        → (position : ℕ)
        × (slice_get (shared.places ++ length shared.distinct ∷ []) position ≡ Some place)
    used place (inl same) = (
      length shared.places,
      got_after shared.places (length shared.distinct) ∙ ap Some (sym same),
    )
    used place (inr below) =
        let at = are.used place below in
        (at.0, got_before shared.places (length shared.distinct) place at.0 at.1)

-- no predicates
pub shared_none : AreShared (record { distinct = []; places = [] })
shared_none = record {
  within = λ position place at. absurd (none position place at);
  once = λ place other pred at also. absurd (none_there place pred at);
  used = λ place below. absurd (omega arith);
}
  where
    none : (position place : ℕ) → slice_get {X = ℕ} [] position ≡ Some place → ⊥
    none position place at = cc

    none_there : (place : ℕ) (pred : Predicate) → slice_get {X = Predicate} [] place ≡ Some pred → ⊥
    none_there place pred at = cc

-- what was added to a list whose parts are known
abbrev shared_of : List Predicate → List ℕ → Shared
shared_of distinct places = record { distinct = distinct; places = places }

pub known_shared :
    (old : Shared) (distinct : List Predicate) (places more : List ℕ) (place : ℕ) (pred : Predicate)
    → shared_of distinct places ≡ old → AreShared old → slice_get distinct place ≡ Some pred
    → more ≡ places ++ place ∷ [] → AreShared (shared_of distinct more)
known_shared old distinct places more place pred is are kept added =
    subst (λ (list : List ℕ). AreShared (shared_of distinct list)) (sym added)
    (shared_known (shared_of distinct places) place pred (subst AreShared (sym is) are) kept)

pub known_listed : (old : Shared) (distinct : List Predicate) (places more : List ℕ) (place : ℕ)
    (pred : Predicate) → shared_of distinct places ≡ old → slice_get distinct place ≡ Some pred
    → more ≡ places ++ place ∷ [] → listed (shared_of distinct more) ≡ listed old ++ pred ∷ []
known_listed old distinct places more place pred is kept added =
    ap (λ (list : List ℕ). listed (shared_of distinct list)) added
    ∙ listed_known (shared_of distinct places) place pred kept
    ∙ ap (λ (s : Shared). listed s ++ pred ∷ []) is

pub new_shared : (old : Shared) (distinct kept : List Predicate) (places more : List ℕ)
    (place : ℕ) (pred : Predicate) → shared_of distinct places ≡ old → AreShared old
    → (Contains distinct pred → ⊥) → kept ≡ distinct ++ pred ∷ [] → place ≡ length distinct
    → more ≡ places ++ place ∷ [] → AreShared (shared_of kept more)
new_shared old distinct kept places more place pred is are new keeps at added =
    subst (λ (list : List Predicate). AreShared (shared_of list more)) (sym keeps)
    (subst (λ (list : List ℕ). AreShared (shared_of (distinct ++ pred ∷ []) list))
    (sym (added ∙ ap (λ (n : ℕ). places ++ n ∷ []) at))
    (shared_new (shared_of distinct places) pred (subst AreShared (sym is) are) new))

pub new_listed : (old : Shared) (distinct kept : List Predicate) (places more : List ℕ)
    (place : ℕ) (pred : Predicate) → shared_of distinct places ≡ old → AreShared old
    → kept ≡ distinct ++ pred ∷ [] → place ≡ length distinct → more ≡ places ++ place ∷ []
    → listed (shared_of kept more) ≡ listed old ++ pred ∷ []
new_listed old distinct kept places more place pred is are keeps at added =
    ap (λ (list : List Predicate). listed (shared_of list more)) keeps
    ∙ ap (λ (list : List ℕ). listed (shared_of (distinct ++ pred ∷ []) list))
    (added ∙ ap (λ (n : ℕ). places ++ n ∷ []) at)
    ∙ listed_new (shared_of distinct places) pred (subst AreShared (sym is) are)
    ∙ ap (λ (s : Shared). listed s ++ pred ∷ []) is

-- the list with one more of the others after it
pub listed_more : (before so_far list others : List Predicate) (position : ℕ) (pred : Predicate)
    → so_far ≡ before ++ take position others → slice_get others position ≡ Some pred
    → list ≡ so_far ++ pred ∷ [] → list ≡ before ++ take (position + 1) others
listed_more before so_far list others position pred is at added =
    let within = slice_get_within others position pred at in
    let read = get_or_from_slice_get others position pred any at in
    let more = take_more others position any within
    ∙ ap (λ (x : Predicate). take position others ++ x ∷ []) read in
    added
    ∙ ap (λ (xs : List Predicate). xs ++ pred ∷ []) is
    ∙ append_assoc before (take position others) (pred ∷ [])
    ∙ ap (λ (xs : List Predicate). before ++ xs) (sym more)
