-- For the prover. What is kept of the runners of a compose and of a collect, as lists.
use Rattle.std.specs.Prelude.{List, map}
use Rattle.query_model.specs.Queries.{Qre}
use Rattle.compose_eval.specs.declared.instance.Instance.{Instance}
use Rattle.map_collect.specs.Keys.{fallback_of, followers_of, names_of}
use Rattle.map_collect.specs.declared.keys.Keys.{Keys}
use Rattle.map_collect.specs.declared.track.Track as held
use Rattle.eval_nodes.specs.Plain.{seen_of}
use Rattle.eval_nodes.specs.declared.progress.Progress.{Progress}
use Rattle.runner_snapshot.specs.Dumps.{Fed, Keyed, Track, all_keyed}
use Rattle.eval_snapshot.specs.Dumped.{dumped, keyed_with}

-- a runner that is fed
abbrev pub kept_runner : Qre → Instance Progress → Fed
kept_runner query one =
    record { outer = one.outer; runner = dumped seen_of query one.follower }

-- those of a compose
abbrev pub kept_runners : Qre → List (Instance Progress) → List Fed
kept_runners query live = map (kept_runner query) live

-- those for keys
abbrev pub kept_keys : Qre → Keys Progress → List Keyed
kept_keys query keys = keyed_with (names_of keys) (map (dumped seen_of query) (followers_of keys))

-- a start of a collect
abbrev pub kept_track : Qre → held.Track Progress → Track
kept_track query one = record {
  start = one.start;
  state = one.state;
  fallback = dumped seen_of query (fallback_of one.keys);
  keys = all_keyed (kept_keys query one.keys);
}

-- the starts of a collect
abbrev pub kept_tracks : Qre → List (held.Track Progress) → List Track
kept_tracks query all = map (kept_track query) all
