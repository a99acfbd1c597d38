-- The lists of a dump in memory are seen as the plain ones of their vectors.
use Rattle.std.proofs.Common.{◌≡◌, ◌<◌, ◌++◌, ℕ, List, [], ◌∷◌, get_or, length, map, slice_get}
use Rattle.std.proofs.Common.{Some}
use Rattle.std.proofs.Common.{Vec, Global, Result, Ok, Err, OnErr, refl, sym, ap, subst, ◌∙◌}
use Rattle.std.specs.Option.{option_map}
use Rattle.std.specs.Vec.{vec_len}
use Rattle.std.proofs.lemmas.List.{length-map, map_push}
use Rattle.std.proofs.lemmas.Option.{slice_get-map, slice_get_read}
use Rattle.rate_expr.specs.declared.state.State.{State}
use Rattle.runner_snapshot.specs.declared.dump.RunnerDump.{RunnerDump}
use Rattle.runner_snapshot.specs.declared.keys.KeyDump.{KeyDump}
use Rattle.runner_snapshot.specs.declared.keys.KeyDumps as keys
use Rattle.runner_snapshot.specs.declared.runners.Instance.{Instance}
use Rattle.runner_snapshot.specs.declared.runners.Runners as runners
use Rattle.runner_snapshot.specs.declared.tracks.TrackDump.{TrackDump, TrackDump', out-TrackDump}
use Rattle.runner_snapshot.specs.declared.tracks.TrackDump.{out-roll-TrackDump, outs-TrackDump'}
use Rattle.runner_snapshot.specs.declared.tracks.TrackDump.{roll-TrackDump}
use Rattle.runner_snapshot.specs.declared.tracks.TrackDumps as tracks
use Rattle.runner_snapshot.specs.Dumps.{Fed, Keyed, Track, fed_list, keyed_list, runner}
use Rattle.runner_snapshot.specs.Dumps.{track_list}
use Rattle.runner_snapshot.specs.Plain.{plain_keys, plain_node, plain_runner, row_fed, row_keyed}
use Rattle.runner_snapshot.specs.Plain.{row_tracks}
use Rattle.runner_snapshot.specs.Plain.{runners_of, keys_of, tracks_of}

-- an instance of the vector
abbrev pub fed_of : Instance → Fed
fed_of instance = record { outer = instance.outer; runner = plain_runner instance.dump }

-- a key of the vector
abbrev pub keyed_of : KeyDump → Keyed
keyed_of one = record { key = one.key; runner = plain_runner one.dump }

-- a start of the vector
abbrev pub track_with : ℕ → State → RunnerDump → keys.KeyDumps → Track
track_with start state fallback others = record {
  start = start;
  state = state;
  fallback = plain_runner fallback;
  keys = plain_keys others;
}

abbrev pub track_of : TrackDump → Track
track_of one =
    let inside = out-TrackDump one in
    track_with inside.start inside.state inside.fallback inside.keys

row_runners : (n : _) (row : runners.Row_of-Instance n)
    → fed_list (row_fed row) ≡ map fed_of (runners.items-the_row-Instance n row)
row_runners _ runners.end_of-Instance = refl
row_runners _ (runners.more_of-Instance outer position answer node rest) =
    let first : Fed = record { outer = outer; runner = runner position answer (plain_node node) } in
    ap (λ (others : List Fed). first ∷ others) (row_runners _ rest)

row_keys : (n : _) (row : keys.Row_of-KeyDump n)
    → keyed_list (row_keyed row) ≡ map keyed_of (keys.items-the_row-KeyDump n row)
row_keys _ keys.end_of-KeyDump = refl
row_keys _ (keys.more_of-KeyDump key position answer node rest) =
    let first : Keyed = record { key = key; runner = runner position answer (plain_node node) } in
    ap (λ (others : List Keyed). first ∷ others) (row_keys _ rest)

row_starts : (n : _) (row : tracks.Row_of-TrackDump n)
    → track_list (row_tracks row) ≡ map track_of (tracks.items-the_row-TrackDump n row)
row_starts _ tracks.end_of-TrackDump = refl
row_starts _ (tracks.more_of-TrackDump (TrackDump' start state position answer node others)
    rest) =
    let first : Track = record {
      start = start;
      state = state;
      fallback = runner position answer (plain_node node);
      keys = plain_keys others;
    } in
    ap (λ (starts : List Track). first ∷ starts) (row_starts _ rest)
    ∙ ap (λ inside. track_with inside.start inside.state inside.fallback inside.keys
    ∷ map track_of (tracks.items-the_row-TrackDump _ rest))
    (sym (outs-TrackDump' start state position answer node others))

pub runners_are : (instances : runners.Runners)
    → runners_of instances ≡ map fed_of (runners.out-Runners instances).runners.items
runners_are (runners.Runners' shape row) = row_runners _ row
    ∙ ap (map fed_of) (sym (runners.items_shown-the_row-Instance-1 shape row))
    ∙ sym (ap (λ inside. map fed_of inside.runners.items) (runners.outs-Runners' shape row))

pub keys_are : (others : keys.KeyDumps)
    → keys_of others ≡ map keyed_of (keys.out-KeyDumps others).keys.items
keys_are (keys.KeyDumps' alloc shape row) = row_keys _ row
    ∙ ap (map keyed_of) (sym (keys.items_shown-the_row-KeyDump-0 shape row))
    ∙ sym (ap (λ inside. map keyed_of inside.keys.items) (keys.outs-KeyDumps' alloc shape row))

pub tracks_are : (starts : tracks.TrackDumps)
    → tracks_of starts ≡ map track_of (tracks.out-TrackDumps starts).tracks.items
tracks_are (tracks.TrackDumps' shape row) = row_starts _ row
    ∙ ap (map track_of) (sym (tracks.items_shown-the_row-TrackDump-2 shape row))
    ∙ sym (ap (λ inside. map track_of inside.tracks.items) (tracks.outs-TrackDumps' shape row))

-- ---- lists that are made of a vector

pub runners_made : (made : Vec Instance Global)
    → runners_of (runners.roll-Runners (record { runners = made })) ≡ map fed_of made.items
runners_made made =
    runners_are (runners.roll-Runners (record { runners = made }))
    ∙ ap (λ inside. map fed_of inside.runners.items)
    (runners.out-roll-Runners (record { runners = made }))

pub keys_made : (alloc : Global) (made : Vec KeyDump Global)
    → keys_of (keys.roll-KeyDumps (record { alloc = alloc; keys = made })) ≡ map keyed_of made.items
keys_made alloc made =
    keys_are (keys.roll-KeyDumps (record { alloc = alloc; keys = made }))
    ∙ ap (λ inside. map keyed_of inside.keys.items)
    (keys.out-roll-KeyDumps (record { alloc = alloc; keys = made }))

pub tracks_made : (made : Vec TrackDump Global)
    → tracks_of (tracks.roll-TrackDumps (record { tracks = made })) ≡ map track_of made.items
tracks_made made =
    tracks_are (tracks.roll-TrackDumps (record { tracks = made }))
    ∙ ap (λ inside. map track_of inside.tracks.items)
    (tracks.out-roll-TrackDumps (record { tracks = made }))

-- a start that is made of its parts
pub track_made : (start : ℕ) (state : State) (fallback : RunnerDump) (others : keys.KeyDumps)
    → track_of (roll-TrackDump (record {
      start = start;
      state = state;
      fallback = fallback;
      keys = others;
    }))
    ≡ record {
      start = start;
      state = state;
      fallback = plain_runner fallback;
      keys = plain_keys others;
    }
track_made start state fallback others =
    ap (λ inside. track_with inside.start inside.state inside.fallback inside.keys)
    (out-roll-TrackDump (record {
      start = start;
      state = state;
      fallback = fallback;
      keys = others;
    }))

-- ---- what is seen of a vector

module _ {A B : Type 0} (seen : A → B) where
  -- as many
  pub seen_count : (count : ℕ) (held : Vec A Global) (list : List B) → count ≡ vec_len held
      → list ≡ map seen held.items → count ≡ length list
  seen_count count held list is same =
      is ∙ held.ok.0 ∙ sym (ap length same ∙ length-map held.items seen)

  pub seen_within : (i : ℕ) (held : Vec A Global) (list : List B) → i < length list
      → list ≡ map seen held.items → i < vec_len held
  seen_within i held list within same =
      subst (λ (count : ℕ). i < count) (sym (seen_count (vec_len held) held list refl same)) within

  -- the one at a place
  pub seen_at : (i : ℕ) (held : Vec A Global) (list : List B) (one : A) → i < length list
      → list ≡ map seen held.items → one ≡ get_or held.items i one
      → slice_get list i ≡ Some (seen one)
  seen_at i held list one within same is =
      let inside : i < length held.items =
      subst (λ (count : ℕ). i < count) (ap length same ∙ length-map held.items seen) within in
      ap (λ (all : List B). slice_get all i) same
      ∙ slice_get-map seen held.items i
      ∙ ap (option_map seen) (slice_get_read held.items (length held.items) i one refl inside is)

  -- one more
  pub seen_more : (old new : List B) (held grown : List A) (one : A) → old ≡ map seen held
      → new ≡ map seen grown → grown ≡ held ++ one ∷ [] → new ≡ old ++ seen one ∷ []
  seen_more old new held grown one was is more =
      is ∙ ap (map seen) more ∙ map_push seen held one
      ∙ ap (λ (all : List B). all ++ seen one ∷ []) (sym was)

  -- the same
  pub seen_same : (old new : List B) (held kept : List A) → old ≡ map seen held
      → new ≡ map seen kept → kept ≡ held → new ≡ old
  seen_same old new held kept was is same = is ∙ ap (map seen) same ∙ sym was

-- what holds anyway holds after an error
pub at_err : {T E P : Type 0} (result : Result T E) → P → OnErr result P
at_err (Ok x) holds = tt
at_err (Err e) holds = holds
