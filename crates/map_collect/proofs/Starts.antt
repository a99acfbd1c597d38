-- Tracks by their starts: where one stands, and one more.
use Rattle.std.proofs.Common.{◌≡◌, ◌==◌, ◌+◌, ◌<◌, ◌||◌, ◌++◌, ℕ, zero, suc, Bool, true, false}
use Rattle.std.proofs.Common.{cond, List, [], ◌∷◌, Option, None, Some, get_or, length, refl, sym}
use Rattle.std.proofs.Common.{ap, subst, arith}
use Rattle.std.specs.Prelude.{IfNone, IfSome}
use Rattle.std.specs.List.{list_any, position_from, slice_get, AllByRecursion, Contains, IsDistinct}
use Rattle.std.proofs.lemmas.Bool.{eqb-true, eqb-false}
use Rattle.std.proofs.lemmas.Cmp.{nat_eq_equiv}
use Rattle.std.proofs.lemmas.List.{map-append}
use Rattle.std.proofs.lemmas.Map.Keys.{IsDistinct-push}
use Rattle.std.proofs.lemmas.Option.{none-some, same_Some}
use Rattle.rate_expr.specs.After.{IsStateOf}
use Rattle.rate_expr.specs.Sets.{Sets}
use Rattle.rate_expr.specs.declared.state.State.{State}
use Rattle.map_collect.specs.Tracks.{begins_at, starts_of, states_of, AreTracks}
use Rattle.map_collect.specs.declared.track.Track.{Track}

fresh_first : (same among : Bool) → (same ≡ true → ⊥) → among ≡ false → (same || among) ≡ false
fresh_first true among differs none = absurd (differs refl)
fresh_first false among differs none = none

-- a start that is not there differs from all
none_among : (start : ℕ) (starts : List ℕ)
    → (Contains starts start → ⊥) → list_any (λ other. start == other) starts ≡ false
none_among start [] fresh = refl
none_among start (other ∷ starts) fresh =
    fresh_first (start == other) (list_any (λ other. start == other) starts)
    (λ same. fresh (zero, omega arith, sym (eqb-true start other same)))
    (none_among start starts
    (λ found. fresh (suc found.0, (let inside = found.1 in omega (arith, inside)), found.2)))

all_push : (P : State → Type 0) (states : List State) (state : State)
    → AllByRecursion P states → P state → AllByRecursion P (states ++ state ∷ [])
all_push P [] state all one = (one, tt)
all_push P (first ∷ states) state all one = (all.0, all_push P states state all.1 one)

module _ {R : Type 0} where
  -- no track yet
  pub AreTracks-none : (sets : Sets) (tracks : List (Track R)) → tracks ≡ [] → AreTracks sets tracks
  unfolding IsDistinct
  AreTracks-none sets tracks is =
      subst (λ (ts : List (Track R)). AreTracks sets ts) (sym is)
      (record { distinct = tt; states = tt })

  -- one more, whose start was not there
  pub AreTracks-more : (sets : Sets) (tracks now : List (Track R)) (x : Track R)
      → now ≡ tracks ++ x ∷ [] → AreTracks sets tracks → (Contains (starts_of tracks) x.start → ⊥)
      → IsStateOf sets x.state → AreTracks sets now
  AreTracks-more sets tracks now x is were fresh state =
      subst (λ (ts : List (Track R)). AreTracks sets ts) (sym is) (record {
        distinct =
            subst (IsDistinct ◌==◌) (sym (map-append (λ (t : Track R). t.start) tracks (x ∷ [])))
            (IsDistinct-push nat_eq_equiv (starts_of tracks) x.start were.distinct
            (none_among x.start (starts_of tracks) fresh));
        states = subst (AllByRecursion (IsStateOf sets))
            (sym (map-append (λ (t : Track R). t.state) tracks (x ∷ [])))
            (all_push (IsStateOf sets) (states_of tracks) x.state were.states state);
      })

  there_first : (same : Bool) (x : Track R) (tracks : List (Track R)) (start from i : ℕ)
      → (x.start == start) ≡ same
      → (position_from (begins_at start) (from + 1) tracks ≡ Some i
      → (k : ℕ) × (i ≡ from + 1 + k) × (slice_get (starts_of tracks) k ≡ Some start))
      → cond same (Some from) (position_from (begins_at start) (from + 1) tracks) ≡ Some i
      → (k : ℕ) × (i ≡ from + k) × (slice_get (starts_of (x ∷ tracks)) k ≡ Some start)
  there_first true x tracks start from i same further some =
      let is : x.start ≡ start = eqb-true x.start start same in
      let first : from ≡ i = same_Some from i some in
      (zero, omega (arith, first), ap (λ (n : ℕ). Some n) is)
  there_first false x tracks start from i same further some =
      let rest = further some in
      let is = rest.1 in
      (suc rest.0, omega (arith, is), rest.2)

  there_from : (tracks : List (Track R)) (start from i : ℕ)
      → position_from (begins_at start) from tracks ≡ Some i
      → (k : ℕ) × (i ≡ from + k) × (slice_get (starts_of tracks) k ≡ Some start)
  there_from [] start from i some = absurd (none-some i some)
  there_from (x ∷ tracks) start from i some =
      there_first (x.start == start) x tracks start from i refl
      (there_from tracks start (from + 1) i) some

  there : (tracks : List (Track R)) (start i : ℕ)
      → position_from (begins_at start) 0 tracks ≡ Some i
      → slice_get (starts_of tracks) i ≡ Some start
  there tracks start i some =
      let found = there_from tracks start 0 i some in
      let is = found.1 in
      subst (λ (k : ℕ). slice_get (starts_of tracks) k ≡ Some start) (omega (arith, is)) found.2

  absent_first : (same : Bool) (x : Track R) (tracks : List (Track R)) (start from k : ℕ)
      → (x.start == start) ≡ same
      → (position_from (begins_at start) (from + 1) tracks ≡ None
      → (j : ℕ) → j < length (starts_of tracks) → get_or (starts_of tracks) j start ≡ start → ⊥)
      → cond same (Some from) (position_from (begins_at start) (from + 1) tracks) ≡ None
      → k < length (starts_of (x ∷ tracks)) → get_or (starts_of (x ∷ tracks)) k start ≡ start → ⊥
  absent_first true x tracks start from k same further none inside is = none-some from (sym none)
  absent_first false x tracks start from zero same further none inside is =
      eqb-false x.start start same is
  absent_first false x tracks start from (suc k) same further none inside is =
      further none k (omega (arith, inside)) is

  absent_from : (tracks : List (Track R)) (start from k : ℕ)
      → position_from (begins_at start) from tracks ≡ None
      → k < length (starts_of tracks) → get_or (starts_of tracks) k start ≡ start → ⊥
  absent_from [] start from k none inside is = absurd (omega (arith, inside))
  absent_from (x ∷ tracks) start from k none inside is =
      absent_first (x.start == start) x tracks start from k refl
      (λ after j. absent_from tracks start (from + 1) j after) none inside is

  -- an answer by places of tracks is one by starts
  pub found_there : (place : Option ℕ) (tracks seen : List (Track R)) (start : ℕ)
      → place ≡ position_from (begins_at start) 0 seen → seen ≡ tracks
      → IfSome place (λ i. slice_get (starts_of tracks) i ≡ Some start)
  found_there None tracks seen start is same = tt
  found_there (Some i) tracks seen start is same =
      subst (λ (ts : List (Track R)). slice_get (starts_of ts) i ≡ Some start) same
      (there seen start i (sym is))

  pub none_there : (place : Option ℕ) (tracks seen : List (Track R)) (start : ℕ)
      → place ≡ position_from (begins_at start) 0 seen → seen ≡ tracks
      → IfNone place (Contains (starts_of tracks) start → ⊥)
  none_there None tracks seen start is same =
      subst (λ (ts : List (Track R)). Contains (starts_of ts) start → ⊥) same
      (λ found. absent_from seen start 0 found.0 (sym is) found.1 found.2)
  none_there (Some i) tracks seen start is same = tt
