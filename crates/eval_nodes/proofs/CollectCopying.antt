-- Runners for keys and the starts of a collect, read one after the other.
use Rattle.std.proofs.Common.{◌≡◌, ◌==◌, ◌∙◌, ℕ, zero, suc, ◌+◌, Bool, true, false, List, [], ◌∷◌}
use Rattle.std.proofs.Common.{◌++◌, Some, slice_get, take, refl, sym, ap, subst, arith, inl, inr}
use Rattle.std.specs.List.{Contains, IsDistinct, sum_by}
use Rattle.std.specs.Str.{bytes_eq}
use Rattle.std.proofs.lemmas.Bool.{eq-eqb, false≢true}
use Rattle.std.proofs.lemmas.List.{take-map}
use Rattle.std.proofs.lemmas.Map.Keys.{IsDistinct-head, IsDistinct-tail}
use Rattle.std.proofs.lemmas.Option.{none-some, same_Some}
use Rattle.std.proofs.lemmas.Slice.Eq.{bytes_eq-Decides}
use Rattle.rate_expr.specs.After.{IsStateOf}
use Rattle.rate_expr.specs.Sets.{Sets}
use Rattle.rate_expr.specs.declared.state.State.{State}
use Rattle.map_collect.specs.Followers.{Followers, with_key}
use Rattle.map_collect.specs.Tracks.{AreStates, keys_of, starts_of, states_of}
use Rattle.map_collect.specs.declared.keys.Keys.{Keys}
use Rattle.map_collect.specs.declared.track.Track.{Track}
use Rattle.eval_nodes.specs.Copies.{AreAlike, AreCopiedKeys, IsCopiedTrack, IsCopyOf}
use Rattle.eval_nodes.specs.Counts.{size_of_keys, size_of_state, size_of_track}
use Rattle.eval_nodes.specs.Holdings.{Holding, Seen}
use Rattle.eval_nodes.proofs.CollectCopies.{same_starts}
use Rattle.eval_nodes.proofs.Instances.{all_member}
use Rattle.eval_nodes.proofs.Members.{member_cases, no_member}
use Rattle.eval_nodes.proofs.Runners.{alike_more, sum_more, take_one}
use Rattle.eval_nodes.proofs.Zips.{read_part, read_there}

-- before a value that differs from all others it does not stand
not_before : {A : Type 0} (eq : A → A → Bool) → ((x y : A) → x ≡ y → eq x y ≡ true)
    → (xs : List A) (i : ℕ) (x : A) → IsDistinct eq xs → slice_get xs i ≡ Some x
    → Contains (take i xs) x → ⊥
not_before eq equal [] i x distinct at there = absurd (none-some x at)
not_before eq equal (y ∷ xs) zero x distinct at there = no_member x there
not_before eq equal (y ∷ xs) (suc i) x distinct at there =
    elim (member_cases y x (take i xs) there) [
      | inl same ↦ false≢true (sym (all_member (λ z. eq y z ≡ false) xs x
          (IsDistinct-head eq y xs distinct) (read_there xs i x at))
          ∙ equal y x same)
      | inr later ↦ not_before eq equal xs i x (IsDistinct-tail eq y xs distinct) at later
    ]

-- a key is not among those that were copied
pub key_fresh : (names copied : List (List ℕ)) (i : ℕ) (key : List ℕ) → IsDistinct bytes_eq names
    → copied ≡ take i names → slice_get names i ≡ Some key → Contains copied key → ⊥
key_fresh names copied i key distinct same at there =
    not_before bytes_eq (λ x y is. (bytes_eq-Decides x y).1 is) names i key distinct at
    (subst (λ (xs : List (List ℕ)). Contains xs key) same there)

-- the state at an index is one of the automaton
pub state_at : {R : Type 0} (sets : Sets) (tracks : List (Track R)) (i : ℕ) (state : State)
    → AreStates sets tracks → slice_get (states_of tracks) i ≡ Some state → IsStateOf sets state
state_at sets tracks i state all at =
    all_member (IsStateOf sets) (states_of tracks) state all
    (read_there (states_of tracks) i state at)

-- a track by its parts
pub track_at : {R : Type 0} (tracks : List (Track R)) (i start : ℕ) (state : State) (keys : Keys R)
    → slice_get (starts_of tracks) i ≡ Some start → slice_get (states_of tracks) i ≡ Some state
    → slice_get (keys_of tracks) i ≡ Some keys
    → slice_get tracks i ≡ Some (record { start = start; state = state; keys = keys })
track_at [] i start state keys a b c = absurd (none-some start a)
track_at {R} (t ∷ tracks) zero start state keys a b c =
    let same : ◌≡◌ {A = Track R} t (record { start = start; state = state; keys = keys }) =
    (λ j. record {
      start = same_Some t.start start a j;
      state = same_Some t.state state b j;
      keys = same_Some t.keys keys c j;
    }) in
    ap (λ (x : Track R). Some x) same
track_at (t ∷ tracks) (suc i) start state keys a b c = track_at tracks i start state keys a b c

-- how much the tracks take, with one more
pub size_more : {R : Type 0} (seen : R → Seen R) (size : Holding R → ℕ) (tracks : List (Track R))
    (i : ℕ) (state : State) (keys : Keys R) → slice_get (states_of tracks) i ≡ Some state
    → slice_get (keys_of tracks) i ≡ Some keys
    → sum_by (λ (t : Track R). size_of_track seen size t) (take (i + 1) tracks)
    ≡ sum_by (λ (t : Track R). size_of_track seen size t) (take i tracks)
    + (1 + size_of_state state + size_of_keys seen size keys)
size_more {R} seen size tracks i state keys at_state at_keys =
    let (t, at, is) = read_part (λ (t : Track R). t.state) tracks i state at_state in
    let (u, at', is') = read_part (λ (t : Track R). t.keys) tracks i keys at_keys in
    let same : t.keys ≡ keys = ap (λ (x : Track R). x.keys) (same_Some t u (sym at ∙ at')) ∙ is' in
    let more = sum_more (λ (t : Track R). size_of_track seen size t) tracks i t at in
    let of_state : size_of_state t.state ≡ size_of_state state = ap size_of_state is in
    let of_keys : size_of_keys seen size t.keys ≡ size_of_keys seen size keys =
    ap (size_of_keys seen size) same in
    omega (arith, more, of_state, of_keys)

module _ {R : Type 0} (seen : R → Seen R) (is_copy : Holding R → Holding R → Type 0) where
  -- a start is not among those that were copied
  pub start_fresh : (tracks copied : List (Track R)) (i start : ℕ)
      → IsDistinct ◌==◌ (starts_of tracks)
      → AreAlike (IsCopiedTrack seen is_copy) (take i tracks) copied
      → slice_get (starts_of tracks) i ≡ Some start → Contains (starts_of copied) start → ⊥
  start_fresh tracks copied i start distinct alike at there =
      not_before ◌==◌ (λ x y is. eq-eqb x y is) (starts_of tracks) i start distinct at
      (subst (λ (xs : List ℕ). Contains xs start)
      (same_starts seen is_copy (take i tracks) copied alike
      ∙ sym (take-map (λ (t : Track R). t.start) i tracks)) there)

  -- one more
  pub track_put : (tracks copied new : List (Track R)) (i start : ℕ) (state : State)
      (was keys : Keys R) → slice_get (starts_of tracks) i ≡ Some start
      → slice_get (states_of tracks) i ≡ Some state → slice_get (keys_of tracks) i ≡ Some was
      → AreAlike (IsCopiedTrack seen is_copy) (take i tracks) copied
      → AreCopiedKeys seen is_copy was keys
      → new ≡ copied ++ record { start = start; state = state; keys = keys } ∷ []
      → AreAlike (IsCopiedTrack seen is_copy) (take (i + 1) tracks) new
  track_put tracks copied new i start state was keys a b c alike is put =
      subst (AreAlike (IsCopiedTrack seen is_copy) (take (i + 1) tracks)) (sym put)
      (alike_more (IsCopiedTrack seen is_copy) tracks copied i
      (record { start = start; state = state; keys = was })
      (record { start = start; state = state; keys = keys })
      (track_at tracks i start state was a b c) alike
      (record { start = refl; state = refl; keys = is }))

  -- one more key
  pub name_put : (names : List (List ℕ)) (keyed new : Followers R) (i : ℕ)
      (key : List ℕ) (runner : R) → slice_get names i ≡ Some key → keyed.names ≡ take i names
      → new ≡ with_key key runner keyed → new.names ≡ take (i + 1) names
  name_put names keyed new i key runner at same put =
      ap (λ (k : Followers R). k.names) put ∙ ap (λ (ns : List (List ℕ)). ns ++ key ∷ []) same
      ∙ sym (take_one names i key at)

  pub runner_put : (runners : List R) (keyed new : Followers R) (i : ℕ) (key : List ℕ)
      (was runner : R) → slice_get runners i ≡ Some was
      → AreAlike (IsCopyOf seen is_copy) (take i runners) keyed.followers
      → IsCopyOf seen is_copy was runner → new ≡ with_key key runner keyed
      → AreAlike (IsCopyOf seen is_copy) (take (i + 1) runners) new.followers
  runner_put runners keyed new i key was runner at alike is put =
      subst (λ (k : Followers R). AreAlike (IsCopyOf seen is_copy) (take (i + 1) runners)
      k.followers) (sym put)
      (alike_more (IsCopyOf seen is_copy) runners keyed.followers i was runner at alike is)
