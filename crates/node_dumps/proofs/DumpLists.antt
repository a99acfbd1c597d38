-- Lists of a dump, to which one element more of what is held is appended.
use Rattle.std.proofs.Common.{◌≡◌, ◌∙◌, ◌+◌, ◌++◌, ℕ, zero, suc, List, [], ◌∷◌, Some, arith, length}
use Rattle.std.proofs.Common.{slice_get, take, ap, map, refl, sym}
use Rattle.std.proofs.lemmas.List.{map-append}
use Rattle.std.proofs.lemmas.Option.{none-some, same_Some}
use Rattle.value_ops.specs.declared.value.Value.{Value}
use Rattle.rate_expr.specs.declared.state.State.{State}
use Rattle.query_model.specs.Queries.{Qre}
use Rattle.split_eval.specs.declared.entry.Entry as held_entry
use Rattle.compose_eval.specs.Followers.{followers_of, outers_of}
use Rattle.compose_eval.specs.declared.instance.Instance.{Instance}
use Rattle.map_collect.specs.Keys.{fallback_of}
use Rattle.map_collect.specs.Tracks.{keys_of, starts_of, states_of}
use Rattle.map_collect.specs.declared.keys.Keys as held_keys
use Rattle.map_collect.specs.declared.track.Track as held_track
use Rattle.eval_nodes.specs.Plain.{seen_of}
use Rattle.eval_nodes.specs.declared.progress.Progress.{Progress}
use Rattle.eval_nodes.proofs.CollectCopying.{track_at}
use Rattle.eval_nodes.proofs.Runners.{take_one}
use Rattle.runner_snapshot.specs.Dumps.{Fed, Keyed, Keys, Runner, Track, all_keyed, keyed_list}
use Rattle.runner_snapshot.specs.declared.entries.Entry.{Entry}
use Rattle.runner_snapshot.proofs.ReadNodes.{keyed_back}
use Rattle.eval_snapshot.specs.Dumped.{dumped, kept_entry, keyed_with}
use Rattle.node_dumps.specs.Lists.{kept_keys, kept_runner, kept_track}

-- one more of a list
map_more : {A B : Type 0} (f : A → B) (xs : List A) (i : ℕ) (x : A) → slice_get xs i ≡ Some x
    → map f (take (i + 1) xs) ≡ map f (take i xs) ++ f x ∷ []
map_more f xs i x at = ap (map f) (take_one xs i x at) ∙ map-append f (take i xs) (x ∷ [])

-- it is appended
map_put : {A B : Type 0} (f : A → B) (xs : List A) (i : ℕ) (x : A) (old new : List B) (y : B)
    → slice_get xs i ≡ Some x → old ≡ map f (take i xs) → y ≡ f x → new ≡ old ++ y ∷ []
    → new ≡ map f (take (i + 1) xs)
map_put {A} {B} f xs i x old new y at before same after =
    after ∙ ap (λ (ys : List B). ys ++ y ∷ []) before
    ∙ ap (λ (z : B). map f (take i xs) ++ z ∷ []) same ∙ sym (map_more f xs i x at)

-- ---- values that wait

pub entry_put : (es : List (held_entry.Entry Value)) (i : ℕ) (e : held_entry.Entry Value)
    (old new : List Entry) (v : Value) → slice_get es i ≡ Some e → old ≡ map kept_entry (take i es)
    → v ≡ e.value → new ≡ old ++ record { inner = e.inner; outer = e.outer; value = v } ∷ []
    → new ≡ map kept_entry (take (i + 1) es)
entry_put es i e old new v at before same after =
    let one : Entry = record { inner = e.inner; outer = e.outer; value = v } in
    let is : one ≡ kept_entry e = (λ j.
    record { inner = e.inner; outer = e.outer; value = same j }) in
    map_put kept_entry es i e old new one at before is after

-- ---- the runners of a compose

instance_at : {R : Type 0} (live : List (Instance R)) (i outer : ℕ) (follower : R)
    → slice_get (outers_of live) i ≡ Some outer → slice_get (followers_of live) i ≡ Some follower
    → slice_get live i ≡ Some (record { outer = outer; follower = follower })
instance_at [] i outer follower a b = absurd (none-some outer a)
instance_at {R} (x ∷ live) zero outer follower a b =
    let same : ◌≡◌ {A = Instance R} x (record { outer = outer; follower = follower }) =
    (λ j. record {
      outer = same_Some x.outer outer a j;
      follower = same_Some x.follower follower b j;
    }) in
    ap (λ (y : Instance R). Some y) same
instance_at (x ∷ live) (suc i) outer follower a b = instance_at live i outer follower a b

pub fed_put : (query : Qre) (live : List (Instance Progress)) (i outer : ℕ) (follower : Progress)
    (old new : List Fed) (one : Runner) → slice_get (outers_of live) i ≡ Some outer
    → slice_get (followers_of live) i ≡ Some follower
    → old ≡ map (kept_runner query) (take i live) → one ≡ dumped seen_of query follower
    → new ≡ old ++ record { outer = outer; runner = one } ∷ []
    → new ≡ map (kept_runner query) (take (i + 1) live)
fed_put query live i outer follower old new one a b before same after =
    let instance : Instance Progress = record { outer = outer; follower = follower } in
    let fed : Fed = record { outer = outer; runner = one } in
    let is : fed ≡ kept_runner query instance = (λ j. record { outer = outer; runner = same j }) in
    map_put (kept_runner query) live i instance old new fed (instance_at live i outer follower a b)
    before is after

-- ---- runners for keys

module _ {R : Type 0} (d : R → Runner) where
  keyed_suc : (names : List (List ℕ)) (runners : List R) (i : ℕ) (name : List ℕ) (one : R)
      → slice_get names i ≡ Some name → slice_get runners i ≡ Some one
      → keyed_with (take (suc i) names) (map d (take (suc i) runners))
      ≡ keyed_with (take i names) (map d (take i runners))
      ++ record { key = name; runner = d one } ∷ []
  keyed_suc [] runners i name one key at = absurd (none-some name key)
  keyed_suc (n ∷ names) [] i name one key at = absurd (none-some one at)
  keyed_suc (n ∷ names) (r ∷ runners) zero name one key at =
      let first : Keyed = record { key = n; runner = d r } in
      let last : Keyed = record { key = name; runner = d one } in
      let same : first ≡ last = (λ j. record {
        key = same_Some n name key j;
        runner = d (same_Some r one at j);
      }) in
      ap (λ (k : Keyed). k ∷ []) same
  keyed_suc (n ∷ names) (r ∷ runners) (suc i) name one key at =
      let first : Keyed = record { key = n; runner = d r } in
      ap (λ (rest : List Keyed). first ∷ rest) (keyed_suc names runners i name one key at)

  pub keyed_put : (names : List (List ℕ)) (runners : List R) (i : ℕ) (name : List ℕ) (one : R)
      (old new : List Keyed) (dump : Runner) → slice_get names i ≡ Some name
      → slice_get runners i ≡ Some one
      → old ≡ keyed_with (take i names) (map d (take i runners)) → dump ≡ d one
      → new ≡ old ++ record { key = name; runner = dump } ∷ []
      → new ≡ keyed_with (take (i + 1) names) (map d (take (i + 1) runners))
  keyed_put names runners i name one old new dump key at before same after =
      let next : i + 1 ≡ suc i = omega arith in
      let front : List Keyed = keyed_with (take i names) (map d (take i runners)) in
      let last : Runner → Keyed = (λ r. record { key = name; runner = r }) in
      after ∙ ap (λ (ks : List Keyed). ks ++ last dump ∷ []) before
      ∙ ap (λ (r : Runner). front ++ last r ∷ []) same
      ∙ sym (ap (λ (n : ℕ). keyed_with (take n names) (map d (take n runners))) next
      ∙ keyed_suc names runners i name one key at)

  taken_all : {A : Type 0} (xs : List A) → take (length xs) xs ≡ xs
  taken_all [] = refl
  taken_all {A} (x ∷ xs) = ap (λ (ys : List A). x ∷ ys) (taken_all xs)

  -- when all were read
  pub keyed_all : (names : List (List ℕ)) (runners : List R) (i : ℕ) (all : List Keyed)
      → i ≡ length names → length runners ≡ length names
      → all ≡ keyed_with (take i names) (map d (take i runners))
      → all ≡ keyed_with names (map d runners)
  keyed_all names runners i all end each is =
      is ∙ ap (λ (n : ℕ). keyed_with (take n names) (map d (take n runners))) end
      ∙ ap (λ (ns : List (List ℕ)). keyed_with ns (map d (take (length names) runners)))
      (taken_all names)
      ∙ ap (λ (n : ℕ). keyed_with names (map d (take n runners))) (sym each)
      ∙ ap (λ (rs : List R). keyed_with names (map d rs)) (taken_all runners)

-- ---- the starts of a collect

pub track_put : (query : Qre) (tracks : List (held_track.Track Progress)) (i start : ℕ)
    (state : State) (keys : held_keys.Keys Progress) (old new : List Track) (fallback : Runner)
    (others : Keys) → slice_get (starts_of tracks) i ≡ Some start
    → slice_get (states_of tracks) i ≡ Some state → slice_get (keys_of tracks) i ≡ Some keys
    → old ≡ map (kept_track query) (take i tracks)
    → fallback ≡ dumped seen_of query (fallback_of keys)
    → keyed_list others ≡ kept_keys query keys
    → new ≡ old ++ record {
      start = start;
      state = state;
      fallback = fallback;
      keys = others;
    } ∷ []
    → new ≡ map (kept_track query) (take (i + 1) tracks)
track_put query tracks i start state keys old new fallback others a b c before one all after =
    let track : held_track.Track Progress =
    record { start = start; state = state; keys = keys } in
    let kept : Track =
    record { start = start; state = state; fallback = fallback; keys = others } in
    let same : others ≡ all_keyed (kept_keys query keys) =
    sym (keyed_back others) ∙ ap all_keyed all in
    let is : kept ≡ kept_track query track = (λ j. record {
      start = start;
      state = state;
      fallback = one j;
      keys = same j;
    }) in
    map_put (kept_track query) tracks i track old new kept
    (track_at tracks i start state keys a b c) before is after
