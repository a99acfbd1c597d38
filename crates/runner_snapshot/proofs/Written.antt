-- The bytes of the lists of a dump are those of what their vectors have.
use Rattle.std.proofs.Common.{◌≡◌, ℕ, List, [], ◌∷◌, ◌++◌, map, refl, sym, subst, ap, ◌∙◌}
use Rattle.std.specs.List.{flat_map}
use Rattle.std.specs.Vec.{vec_len}
use Rattle.runner_snapshot.specs.declared.keys.KeyDumps as keys
use Rattle.runner_snapshot.specs.declared.runners.Runners as runners
use Rattle.runner_snapshot.specs.declared.tracks.TrackDumps as tracks
use Rattle.runner_snapshot.specs.Bytes.{fed_bytes, in_four, keyed_bytes, keys_bytes, runners_bytes}
use Rattle.runner_snapshot.specs.Bytes.{track_bytes, tracks_bytes}
use Rattle.runner_snapshot.specs.Got.{Gets}
use Rattle.runner_snapshot.specs.Plain.{keys_of, plain_keys, plain_runners, plain_tracks}
use Rattle.runner_snapshot.specs.Plain.{runners_of}
use Rattle.runner_snapshot.specs.Plain.{tracks_of}
use Rattle.runner_snapshot.specs.Written.{instance_bytes, key_bytes, start_bytes}
use Rattle.runner_snapshot.proofs.ReadNodes.{fed_back, fed_text, fed_texts, keyed_back, keyed_text}
use Rattle.runner_snapshot.proofs.ReadNodes.{keyed_texts, track_back, track_text, track_texts}
use Rattle.runner_snapshot.proofs.Rows.{fed_of, keyed_of, keys_are, runners_are, seen_count}
use Rattle.runner_snapshot.proofs.Rows.{track_of}
use Rattle.runner_snapshot.proofs.Rows.{tracks_are}
use Rattle.runner_snapshot.proofs.Taken.{gets_both}

-- what is seen of each, and of that the bytes
flat_map-map : {A B C : Type 0} (f : B → List C) (seen : A → B) (xs : List A)
    → flat_map f (map seen xs) ≡ flat_map (λ x. f (seen x)) xs
flat_map-map f seen [] = refl
flat_map-map {A} {B} {C} f seen (x ∷ xs) =
    ap (λ (rest : List C). f (seen x) ++ rest) (flat_map-map f seen xs)

pub runners_written : (instances : runners.Runners)
    → let held = (runners.out-Runners instances).runners in
    runners_bytes (plain_runners instances)
    ≡ in_four (vec_len held) ++ flat_map instance_bytes held.items
runners_written instances =
    let held = (runners.out-Runners instances).runners in
    let plain = plain_runners instances in
    let list = runners_are instances in
    ap (λ (count : ℕ). in_four count ++ fed_bytes plain)
    (sym (seen_count fed_of (vec_len held) held (runners_of instances) refl list))
    ∙ ap (λ (bytes : List ℕ). in_four (vec_len held) ++ bytes)
    (ap fed_bytes (sym (fed_back plain)) ∙ fed_texts (runners_of instances)
    ∙ ap (flat_map fed_text) list ∙ flat_map-map fed_text fed_of held.items)

pub keys_written : (others : keys.KeyDumps)
    → let held = (keys.out-KeyDumps others).keys in
    keys_bytes (plain_keys others) ≡ in_four (vec_len held) ++ flat_map key_bytes held.items
keys_written others =
    let held = (keys.out-KeyDumps others).keys in
    let plain = plain_keys others in
    let list = keys_are others in
    ap (λ (count : ℕ). in_four count ++ keyed_bytes plain)
    (sym (seen_count keyed_of (vec_len held) held (keys_of others) refl list))
    ∙ ap (λ (bytes : List ℕ). in_four (vec_len held) ++ bytes)
    (ap keyed_bytes (sym (keyed_back plain)) ∙ keyed_texts (keys_of others)
    ∙ ap (flat_map keyed_text) list ∙ flat_map-map keyed_text keyed_of held.items)

pub tracks_written : (starts : tracks.TrackDumps)
    → let held = (tracks.out-TrackDumps starts).tracks in
    tracks_bytes (plain_tracks starts) ≡ in_four (vec_len held) ++ flat_map start_bytes held.items
tracks_written starts =
    let held = (tracks.out-TrackDumps starts).tracks in
    let plain = plain_tracks starts in
    let list = tracks_are starts in
    ap (λ (count : ℕ). in_four count ++ track_bytes plain)
    (sym (seen_count track_of (vec_len held) held (tracks_of starts) refl list))
    ∙ ap (λ (bytes : List ℕ). in_four (vec_len held) ++ bytes)
    (ap track_bytes (sym (track_back plain)) ∙ track_texts (tracks_of starts)
    ∙ ap (flat_map track_text) list ∙ flat_map-map track_text track_of held.items)

-- a count and then what it counts
pub list_written : {O : Type 0} (got : O → List ℕ → Type 0) (old counted new : O) (count len : ℕ)
    (bytes held whole : List ℕ) → Gets got old (in_four count) counted → count ≡ len → bytes ≡ held
    → whole ≡ in_four len ++ held → Gets got counted bytes new → Gets got old whole new
list_written got old counted new count len bytes held whole counts is same all more =
    subst (λ (written : List ℕ). Gets got old written new)
    (ap (λ (n : ℕ). in_four n ++ bytes) is
    ∙ ap (λ (rest : List ℕ). in_four len ++ rest) same ∙ sym all)
    (gets_both got old counted new (in_four count) bytes counts more)
