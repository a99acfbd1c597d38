-- For the prover. Tracks as they are stored.
use Rattle.std.specs.Prelude.{ℕ, List, refl}
use Rattle.std.specs.Coded.{Coded, code_by, coded×, coded_list, coded_ℕ}
use Rattle.rate_expr.specs.declared.state.State.{State}
use Rattle.rate_expr.specs.contracts.state.State as state
use Rattle.symbolic_nfa.specs.Automata.{Automaton}
use Rattle.symbolic_nfa.specs.contracts.nfa.Nfa as nfa
use Rattle.map_collect.specs.Followers.{code_of_followers, Followers}
use Rattle.map_collect.specs.Tracks.{Contents}
use Rattle.map_collect.specs.declared.keys.Keys.{Keys}
use Rattle.map_collect.specs.declared.track.Track.{Track}

abbrev pub code_of_state : Coded State
code_of_state = state.the_row.coded

abbrev pub code_of_nfa : Coded Automaton
code_of_nfa = nfa.the_row.coded

module _ {R : Type 0} (code : Coded R) where
  -- the default follower and those of the keys
  abbrev pub code_of_keys : Coded (Keys R)
  code_of_keys = code_by (R × Followers R) (coded× code (code_of_followers code))
      (λ keys. (keys.fallback, keys.keyed))
      (λ parts. record { fallback = parts.0; keyed = parts.1 }) (λ _. refl)

  -- the start, the state and the keys
  abbrev pub code_of_track : Coded (Track R)
  code_of_track =
      code_by (ℕ × (State × Keys R)) (coded× coded_ℕ (coded× code_of_state code_of_keys))
      (λ track. (track.start, (track.state, track.keys)))
      (λ parts. record { start = parts.0; state = parts.1.0; keys = parts.1.1 }) (λ _. refl)

  -- the automaton and the tracks
  abbrev pub code_of_contents : Coded (Contents R)
  code_of_contents =
      code_by (Automaton × List (Track R)) (coded× code_of_nfa (coded_list code_of_track))
      (λ seen. (seen.nfa, seen.tracks))
      (λ parts. record { nfa = parts.0; tracks = parts.1 }) (λ _. refl)
