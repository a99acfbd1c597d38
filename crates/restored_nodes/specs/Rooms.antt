-- Statement. What of a dump that fits is asked where it is put back: it has the query's shape, its
-- lists have room, nothing stands twice in one of them, and its states have positions of their
-- rates.
use Rattle.std.specs.Prelude.{◌≤◌, ℕ, ◌+◌, List, length, map}
use Rattle.std.specs.List.{AllByRecursion, IsDistinct}
use Rattle.std.specs.Str.{bytes_eq}
use Rattle.query_model.specs.Bounds.{places_of}
use Rattle.query_model.specs.Queries as query
use Rattle.query_model.specs.Queries.{Qre}
use Rattle.eval_nodes.specs.Starts.{AreDifferent}
use Rattle.runner_snapshot.specs.declared.entries.Entry.{Entry}
use Rattle.runner_snapshot.specs.Dumps.{Runner, Node, runner, atom, eps, choice, split, iter}
use Rattle.runner_snapshot.specs.Dumps.{combine, apply, compose, collect, Fed, Keyed}
use Rattle.runner_snapshot.specs.Dumps.{fed_list, keyed_list, track_list}
use Rattle.eval_snapshot.specs.Fits.{FitsState}

-- the node of a runner
abbrev pub node_of : Runner → Node
node_of (runner position answer node) = node

-- the values that wait are at most this many, no two with the same inner start
pub record AreFewWaiting (places : ℕ) (entries : List Entry) : Type 0 where
  pub few : length entries ≤ places
  pub distinct : AreDifferent (map (λ entry. entry.inner) entries)

-- the runners of a compose are at most this many, no two with the same start
pub record AreFewFed (has_room : Node → Type 0) (places : ℕ) (runners : List Fed) : Type 0 where
  pub few : length runners ≤ places
  pub distinct : AreDifferent (map (λ one. one.outer) runners)
  pub each : AllByRecursion (λ one. has_room (node_of one.runner)) runners

-- a runner for later keys, and the runners for keys, no two with the same key
pub record HaveKeyRoom (has_room : Node → Type 0) (for_others : Runner)
    (keys : List Keyed) : Type 0 where
  pub fallback : has_room (node_of for_others)
  pub distinct : IsDistinct bytes_eq (map (λ one. one.key) keys)
  pub each : AllByRecursion (λ one. has_room (node_of one.runner)) keys

-- what is kept for the query
abbrev pub HasRoom : Qre → Node → Type 0
HasRoom (query.atom pred expression) (atom starts) = length starts ≤ 1
HasRoom (query.eps number) eps = Unit {0}
HasRoom (query.choice f g) (choice a b) = HasRoom f a × HasRoom g b
HasRoom (query.split f g expression) (split a b entries) =
    HasRoom f a × HasRoom g b × AreFewWaiting (places_of g) entries
HasRoom (query.iter f number expression) (iter a entries) =
    HasRoom f a × AreFewWaiting (places_of f) entries
HasRoom (query.combine f g expression) (combine a b) = HasRoom f a × HasRoom g b
HasRoom (query.apply f expression) (apply a) = HasRoom f a
HasRoom (query.compose f g) (compose a runners) =
    HasRoom f a × AreFewFed (HasRoom g) (places_of f + 1) (fed_list runners)
HasRoom (query.collect chosen sync rate f) (collect tracks) =
    AreDifferent (map (λ one. one.start) (track_list tracks))
    × AllByRecursion (λ one. FitsState rate one.state) (track_list tracks)
    × AllByRecursion (λ one. HaveKeyRoom (HasRoom f) one.fallback (keyed_list one.keys))
    (track_list tracks)
HasRoom query node = ⊥
