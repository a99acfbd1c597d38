-- Statement. The starts of a collect, each with the state of the automaton after the word from it
-- on, and with a follower for each key of that word.
use Rattle.std.specs.Prelude.{◌≡◌, ◌==◌, ◌<◌, ◌⊎◌, ℕ, zero, suc, Bool, List, [], ◌∷◌, map}
use Rattle.std.specs.Prelude.{slice_get, Some}
use Rattle.std.specs.List.{AllByRecursion, AllZip, Contains, IsDistinct}
use Rattle.value_ops.specs.declared.field.Field.{Field}
use Rattle.rate_expr.specs.After.{IsStateOf}
use Rattle.rate_expr.specs.Sets.{Sets}
use Rattle.rate_expr.specs.declared.state.State.{State}
use Rattle.symbolic_nfa.specs.Automata.{Automaton}
use Rattle.symbolic_nfa.specs.States.{Extends, IsAccepted, Steps}
use Rattle.map_collect.specs.declared.keys.Keys.{Keys}
use Rattle.map_collect.specs.declared.track.Track.{Track}

-- the automaton, and the tracks in the order in which their starts were put
pub record Contents (R : Type 0) : Type 0 where
  pub nfa : Automaton
  pub tracks : List (Track R)

module _ {R : Type 0} where
  -- whether the track has this start
  abbrev pub begins_at : ℕ → Track R → Bool
  begins_at start track = track.start == start

  -- the starts of the tracks
  abbrev pub starts_of : List (Track R) → List ℕ
  starts_of tracks = map (λ track. track.start) tracks

  -- the states, in the same order
  abbrev pub states_of : List (Track R) → List State
  states_of tracks = map (λ track. track.state) tracks

  -- the keys, in the same order
  abbrev pub keys_of : List (Track R) → List (Keys R)
  keys_of tracks = map (λ track. track.keys) tracks

  -- no two have the same start
  abbrev pub AreDistinct : List (Track R) → Type 0
  AreDistinct tracks = IsDistinct ◌==◌ (starts_of tracks)

  -- the positions of each state exist
  abbrev pub AreStates : Sets → List (Track R) → Type 0
  AreStates sets tracks = AllByRecursion (IsStateOf sets) (states_of tracks)

  -- the starts are distinct, and the states are those of the automaton
  pub record AreTracks (sets : Sets) (tracks : List (Track R)) : Type 0 where
    pub distinct : AreDistinct tracks
    pub states : AreStates sets tracks

  -- the item leads from the old state to the new one, and the start and the keys stay
  pub record Advances (sets : Sets) (item : List Field) (old new : Track R) : Type 0 where
    pub state : Steps sets old.state item new.state
    pub start : new.start ≡ old.start
    pub keys : new.keys ≡ old.keys

  -- the item does so for each track, in its place
  abbrev pub AllAdvance : Sets → List Field → List (Track R) → List (Track R) → Type 0
  AllAdvance sets item old new = AllZip (Advances sets item) old new

  -- no state is accepted
  abbrev pub NoneAccepted : Sets → List (Track R) → Type 0
  NoneAccepted sets tracks = AllByRecursion (λ state. IsAccepted sets state → ⊥) (states_of tracks)

  -- the state at this index is accepted, and none before it
  pub record IsFirstAccepted (sets : Sets) (tracks : List (Track R)) (i : ℕ) : Type 0 where
    pub state : State
    pub there : slice_get (states_of tracks) i ≡ Some state
    pub accepted : IsAccepted sets state
    pub first : (j : ℕ) (other : State) → j < i → slice_get (states_of tracks) j ≡ Some other
        → IsAccepted sets other → ⊥

  -- exactly the tracks whose state extends are kept, in their order
  abbrev pub KeepsExtending : Automaton → List (Track R) → List (Track R) → Type 0
  KeepsExtending nfa [] kept = kept ≡ []
  KeepsExtending nfa (track ∷ tracks) kept =
      (Extends nfa track.state
      × (others : List (Track R)) × (kept ≡ track ∷ others) × KeepsExtending nfa tracks others)
      ⊎ ((Extends nfa track.state → ⊥) × KeepsExtending nfa tracks kept)

  -- the track has this start, and its state extends
  abbrev pub IsLiveAt : Automaton → ℕ → Track R → Type 0
  IsLiveAt nfa start track = (track.start ≡ start) × Extends nfa track.state

  -- some track does
  pub record IsLiveAmong (nfa : Automaton) (tracks : List (Track R)) (start : ℕ) : Type 0 where
    pub track : Track R
    pub there : Contains tracks track
    pub live : IsLiveAt nfa start track

  -- the tracks, of which the one at this index has other keys
  abbrev pub with_keys : List (Track R) → ℕ → Keys R → List (Track R)
  with_keys [] i keys = []
  with_keys (track ∷ tracks) zero keys =
      record { start = track.start; state = track.state; keys = keys } ∷ tracks
  with_keys (track ∷ tracks) (suc i) keys = track ∷ with_keys tracks i keys
