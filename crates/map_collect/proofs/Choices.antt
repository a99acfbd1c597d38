-- Tracks that are chosen by their states.
use Rattle.std.proofs.Common.{◌≡◌, ◌==◌, ◌<◌, ◌↔◌, inl, inr, ℕ, zero, suc, Bool, true, false, List}
use Rattle.std.proofs.Common.{[], ◌∷◌, Option, None, Some, get_or, length, map, refl, sym, subst}
use Rattle.std.proofs.Common.{arith}
use Rattle.std.specs.Prelude.{IfNone, IfSome, IsTrue}
use Rattle.std.specs.Bool.{MatchBool}
use Rattle.std.specs.Option.{MatchOption}
use Rattle.std.specs.List.{slice_get, items_where_true, AllByRecursion, AllWithin, HoldsAt}
use Rattle.std.specs.List.{IsDistinct}
use Rattle.std.specs.List.Retain.{IsFiltered, ReturnsInTurn}
use Rattle.std.proofs.lemmas.Bool.{false≢true}
use Rattle.std.proofs.lemmas.List.{get_or_default}
use Rattle.std.proofs.lemmas.Map.Keys.{IsDistinct-cons, IsDistinct-head, IsDistinct-tail}
use Rattle.std.proofs.lemmas.Option.{none-some, same_Some}
use Rattle.rate_expr.specs.After.{IsStateOf}
use Rattle.rate_expr.specs.Sets.{Sets}
use Rattle.rate_expr.specs.declared.state.State.{State}
use Rattle.symbolic_nfa.specs.Automata.{Automaton}
use Rattle.symbolic_nfa.specs.States.{Extends, IsAccepted}
use Rattle.map_collect.specs.Tracks.{starts_of, states_of, AreTracks, IsFirstAccepted, IsLiveAmong}
use Rattle.map_collect.specs.Tracks.{IsLiveAt, KeepsExtending, NoneAccepted}
use Rattle.map_collect.specs.declared.track.Track.{Track}

module _ {R : Type 0} where
  state_at : (tracks : List (Track R)) (j : ℕ) (state : State) (d : Track R)
      → slice_get (states_of tracks) j ≡ Some state → state ≡ (get_or tracks j d).state
  state_at [] j state d there = absurd (none-some state there)
  state_at (t ∷ tracks) zero state d there = sym (same_Some t.state state there)
  state_at (t ∷ tracks) (suc j) state d there = state_at tracks j state d there

  state_there : (tracks : List (Track R)) (i : ℕ) (d : Track R) → i < length tracks
      → slice_get (states_of tracks) i ≡ Some (get_or tracks i d).state
  state_there [] i d inside = absurd (omega (arith, inside))
  state_there (t ∷ tracks) zero d inside = refl
  state_there (t ∷ tracks) (suc i) d inside = state_there tracks i d (omega (arith, inside))

  module _ (sets : Sets) where
    abbrev pub Accepted : Track R → Type 0
    Accepted track = IsAccepted sets track.state

    abbrev pub Refused : Track R → Type 0
    Refused track = Accepted track → ⊥

    none_accepted : (tracks : List (Track R))
        → ((k : ℕ) (d : Track R) → k < length tracks → Refused (get_or tracks k d))
        → NoneAccepted sets tracks
    none_accepted [] none = tt
    none_accepted (t ∷ tracks) none = (
      none zero t (omega arith),
      none_accepted tracks (λ k d inside. none (suc k) d (omega (arith, inside))),
    )

    first_at : (tracks : List (Track R)) (i : ℕ) → i < length tracks → HoldsAt Accepted tracks i
        → AllWithin Refused tracks 0 i → IsFirstAccepted sets tracks i
    first_at [] i inside accepted before = absurd (omega (arith, inside))
    first_at (t ∷ tracks) i inside accepted before = record {
      state = (get_or (t ∷ tracks) i t).state;
      there = state_there (t ∷ tracks) i t inside;
      accepted = accepted t;
      first = λ j other below there taken.
          before j t (omega arith) below
          (subst (IsAccepted sets) (state_at (t ∷ tracks) j other t there) taken);
    }

    -- what a search for the first one finds
    pub found_accepted : (place : Option ℕ) (tracks : List (Track R))
        → MatchOption place (AllWithin Refused tracks 0 (length tracks))
        (λ i. (i < length tracks) × HoldsAt Accepted tracks i × AllWithin Refused tracks 0 i)
        → IfSome place (IsFirstAccepted sets tracks)
    found_accepted None tracks found = tt
    found_accepted (Some i) tracks found = first_at tracks i found.0 found.1 found.2

    pub no_accepted : (place : Option ℕ) (tracks : List (Track R))
        → MatchOption place (AllWithin Refused tracks 0 (length tracks))
        (λ i. (i < length tracks) × HoldsAt Accepted tracks i × AllWithin Refused tracks 0 i)
        → IfNone place (NoneAccepted sets tracks)
    no_accepted None tracks found =
        none_accepted tracks (λ k d inside. found k d (omega arith) inside)
    no_accepted (Some i) tracks found = tt

  module _ (nfa : Automaton) where
    live_at : (tracks : List (Track R)) (start k : ℕ) → k < length tracks
        → HoldsAt (IsLiveAt nfa start) tracks k → IsLiveAmong nfa tracks start
    live_at [] start k inside live = absurd (omega (arith, inside))
    live_at (t ∷ tracks) start k inside live =
        let track = get_or (t ∷ tracks) k t in record {
          track = track;
          there = (k, inside, get_or_default (t ∷ tracks) k track t inside);
          live = live t;
        }

    -- what a search for a live one says
    pub decided_live : (decided : Bool) (tracks : List (Track R)) (start : ℕ)
        → MatchBool decided ((k : ℕ) × (k < length tracks) × HoldsAt (IsLiveAt nfa start) tracks k)
        (AllWithin (λ track. IsLiveAt nfa start track → ⊥) tracks 0 (length tracks))
        → IsTrue decided ↔ IsLiveAmong nfa tracks start
    decided_live true tracks start found =
        (λ yes. live_at tracks start found.0 found.1 found.2, λ live. refl)
    decided_live false tracks start none = (
      λ yes. absurd (false≢true yes),
      λ live.
          let at = live.there in
          absurd (none at.0 live.track (omega arith) at.1
          (subst (λ (t : Track R). IsLiveAt nfa start t) (sym at.2) live.live)),
    )

    kept_first : (b : Bool) (x : Track R) (bs : List Bool) (tracks : List (Track R))
        → IsTrue b ↔ Extends nfa x.state → KeepsExtending nfa tracks (items_where_true bs tracks)
        → KeepsExtending nfa (x ∷ tracks) (items_where_true (b ∷ bs) (x ∷ tracks))
    kept_first true x bs tracks says rest =
        inl (says.0 refl, items_where_true bs tracks, refl, rest)
    kept_first false x bs tracks says rest = inr (λ extends. false≢true (says.1 extends), rest)

    module _ {F : Type 0} (post : F → Track R → Bool → F → Type 0) (test : F)
        (says : (x : Track R) (b : Bool) (after : F) → post test x b after
        → (IsTrue b ↔ Extends nfa x.state) × (after ≡ test)) where
      kept_where : (bs : List Bool) (tracks : List (Track R)) (last : F) → length bs ≡ length tracks
          → ReturnsInTurn post test bs tracks last
          → KeepsExtending nfa tracks (items_where_true bs tracks)
      kept_where [] [] last many decided = refl
      kept_where [] (x ∷ tracks) last many decided = absurd (omega (arith, many))
      kept_where (b ∷ bs) [] last many decided = absurd decided
      kept_where (b ∷ bs) (x ∷ tracks) last many decided =
          let one = says x b decided.0 decided.1 in
          kept_first b x bs tracks one.0 (kept_where bs tracks last (omega (arith, many))
          (subst (λ (f : F). ReturnsInTurn post f bs tracks last) one.1 decided.2))

      -- what a test of the states keeps
      pub kept_by : (tracks kept : List (Track R)) → IsFiltered post test tracks kept
          → KeepsExtending nfa tracks kept
      kept_by tracks kept filtered =
          subst (λ (ts : List (Track R)). KeepsExtending nfa tracks ts) (sym filtered.4)
          (kept_where filtered.0 tracks filtered.1 filtered.2 filtered.3)

    module _ {K : Type 0} (P : K → Type 0) (part : Track R → K) where
      all_kept : (tracks kept : List (Track R)) → KeepsExtending nfa tracks kept
          → AllByRecursion P (map part tracks) → AllByRecursion P (map part kept)
      all_kept [] kept keeps all =
          subst (λ (ts : List (Track R)). AllByRecursion P (map part ts)) (sym keeps) tt
      all_kept (x ∷ tracks) kept (inl live) all =
          subst (λ (ts : List (Track R)). AllByRecursion P (map part ts)) (sym live.2)
          (all.0, all_kept tracks live.1 live.3 all.1)
      all_kept (x ∷ tracks) kept (inr dead) all = all_kept tracks kept dead.1 all.1

    none_distinct : (kept : List (Track R)) → kept ≡ [] → IsDistinct ◌==◌ (starts_of kept)
    unfolding IsDistinct
    none_distinct kept is =
        subst (λ (ts : List (Track R)). IsDistinct ◌==◌ (starts_of ts)) (sym is) tt

    distinct_kept : (tracks kept : List (Track R)) → KeepsExtending nfa tracks kept
        → IsDistinct ◌==◌ (starts_of tracks) → IsDistinct ◌==◌ (starts_of kept)
    distinct_kept [] kept keeps distinct = none_distinct kept keeps
    distinct_kept (x ∷ tracks) kept (inl live) distinct =
        subst (λ (ts : List (Track R)). IsDistinct ◌==◌ (starts_of ts)) (sym live.2)
        (IsDistinct-cons ◌==◌ x.start (starts_of live.1)
        (all_kept (λ start. (x.start == start) ≡ false) (λ t. t.start) tracks live.1 live.3
        (IsDistinct-head ◌==◌ x.start (starts_of tracks) distinct))
        (distinct_kept tracks live.1 live.3
        (IsDistinct-tail ◌==◌ x.start (starts_of tracks) distinct)))
    distinct_kept (x ∷ tracks) kept (inr dead) distinct =
        distinct_kept tracks kept dead.1 (IsDistinct-tail ◌==◌ x.start (starts_of tracks) distinct)

    -- the starts of what is kept are distinct, and its states are those of the automaton
    pub AreTracks-kept : (tracks kept : List (Track R)) → KeepsExtending nfa tracks kept
        → AreTracks nfa.sets tracks → AreTracks nfa.sets kept
    AreTracks-kept tracks kept keeps were = record {
      distinct = distinct_kept tracks kept keeps were.distinct;
      states = all_kept (IsStateOf nfa.sets) (λ t. t.state) tracks kept keeps were.states;
    }
