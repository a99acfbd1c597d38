-- Keys that are written at the index of their track.
use Rattle.std.proofs.Common.{set, ◌≡◌, ◌==◌, ◌<◌, ◌∙◌, ℕ, zero, suc, List, [], ◌∷◌, Option, Some}
use Rattle.std.proofs.Common.{slice_get, get_or, length, refl, sym, ap, subst}
use Rattle.std.specs.List.{AllByRecursion, IsDistinct}
use Rattle.std.specs.Option.{option_map}
use Rattle.std.proofs.lemmas.Option.{slice_get-map, slice_get_read}
use Rattle.rate_expr.specs.After.{IsStateOf}
use Rattle.rate_expr.specs.Sets.{Sets}
use Rattle.map_collect.specs.Tracks.{keys_of, starts_of, states_of, with_keys, AreTracks, Contents}
use Rattle.map_collect.specs.declared.keys.Keys.{Keys}
use Rattle.map_collect.specs.declared.track.Track.{Track}

module _ {R : Type 0} where
  -- the keys of a track that is read at an index
  pub keys_read : (tracks : List (Track R)) (i : ℕ) (x : Track R) → i < length tracks
      → x ≡ get_or tracks i x → slice_get (keys_of tracks) i ≡ Some x.keys
  keys_read tracks i x inside read =
      slice_get-map (λ (t : Track R). t.keys) tracks i
      ∙ ap (λ (found : Option (Track R)). option_map (λ (t : Track R). t.keys) found)
      (slice_get_read tracks (length tracks) i x refl inside read)

  written : (tracks : List (Track R)) (i : ℕ) (x : Track R) (keys : Keys R) → x ≡ get_or tracks i x
      → set tracks i (record { start = x.start; state = x.state; keys = keys })
      ≡ with_keys tracks i keys
  written [] i x keys read = refl
  written (t ∷ tracks) zero x keys read =
      ap (λ (y : Track R). record { start = y.start; state = y.state; keys = keys } ∷ tracks) read
  written (t ∷ tracks) (suc i) x keys read =
      ap (λ (ts : List (Track R)). t ∷ ts) (written tracks i x keys read)

  same_starts : (tracks : List (Track R)) (i : ℕ) (keys : Keys R)
      → starts_of (with_keys tracks i keys) ≡ starts_of tracks
  same_starts [] i keys = refl
  same_starts (t ∷ tracks) zero keys = refl
  same_starts (t ∷ tracks) (suc i) keys = λ j. t.start ∷ same_starts tracks i keys j

  same_states : (tracks : List (Track R)) (i : ℕ) (keys : Keys R)
      → states_of (with_keys tracks i keys) ≡ states_of tracks
  same_states [] i keys = refl
  same_states (t ∷ tracks) zero keys = refl
  same_states (t ∷ tracks) (suc i) keys = λ j. t.state ∷ same_states tracks i keys j

  -- the starts and the states stay
  pub AreTracks-written : (sets : Sets) (tracks : List (Track R)) (i : ℕ)
      (x : Track R) (keys : Keys R) → x ≡ get_or tracks i x → AreTracks sets tracks
      → AreTracks sets (set tracks i (record { start = x.start; state = x.state; keys = keys }))
  AreTracks-written sets tracks i x keys read were =
      subst (λ (ts : List (Track R)). AreTracks sets ts)
      (sym (written tracks i x keys read)) (record {
        distinct = subst (IsDistinct ◌==◌) (sym (same_starts tracks i keys)) were.distinct;
        states =
            subst (AllByRecursion (IsStateOf sets)) (sym (same_states tracks i keys)) were.states;
      })

  -- the lender, once the keys at the index are others
  pub lent : (seen now : Contents R) (i : ℕ) (x : Track R) (keys : Keys R) → seen ≡ now
      → x ≡ get_or seen.tracks i x
      → ◌≡◌ {A = Contents R}
      (record {
        nfa = seen.nfa;
        tracks = set seen.tracks i (record { start = x.start; state = x.state; keys = keys });
      })
      (record { nfa = now.nfa; tracks = with_keys now.tracks i keys })
  lent seen now i x keys same read =
      ap (λ (tracks : List (Track R)). record { nfa = seen.nfa; tracks = tracks })
      (written seen.tracks i x keys read)
      ∙ ap (λ (s : Contents R). record { nfa = s.nfa; tracks = with_keys s.tracks i keys }) same
