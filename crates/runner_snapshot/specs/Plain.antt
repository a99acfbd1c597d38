-- Statement. Dumps in memory as plain ones, and what their lists are seen as.
use Rattle.std.specs.Prelude.{List}
use Rattle.runner_snapshot.specs.declared.dump.NodeDump.{NodeDump}
use Rattle.runner_snapshot.specs.declared.dump.NodeDump.TheVariants.{Atom, Eps, Or', Split', Iter'}
use Rattle.runner_snapshot.specs.declared.dump.NodeDump.TheVariants.{Combine', Apply', Compose'}
use Rattle.runner_snapshot.specs.declared.dump.NodeDump.TheVariants.{Collect}
use Rattle.runner_snapshot.specs.declared.dump.RunnerDump.{RunnerDump}
use Rattle.runner_snapshot.specs.declared.keys.KeyDumps as keys
use Rattle.runner_snapshot.specs.declared.runners.Runners as runners
use Rattle.runner_snapshot.specs.declared.tracks.TrackDump.{TrackDump'}
use Rattle.runner_snapshot.specs.declared.tracks.TrackDumps as tracks
use Rattle.runner_snapshot.specs.Dumps.{Runner, Node, Runners, Tracks, Keys, runner, atom, eps}
use Rattle.runner_snapshot.specs.Dumps.{choice, split, iter, combine, apply, compose, collect}
use Rattle.runner_snapshot.specs.Dumps.{no_runners, fed, no_tracks, track, no_keys, keyed}
use Rattle.runner_snapshot.specs.Dumps.{Fed, Keyed, Track, fed_list, keyed_list, track_list}

abbrev mutual
  -- what is kept for a node
  pub plain_node : NodeDump → Node
  plain_node (Atom starts) = atom starts
  plain_node Eps = eps
  plain_node (Or' p a q b) = choice (plain_node a) (plain_node b)
  plain_node (Split' p a q b entries) = split (plain_node a) (plain_node b) entries
  plain_node (Iter' p a entries) = iter (plain_node a) entries
  plain_node (Combine' p a q b) = combine (plain_node a) (plain_node b)
  plain_node (Apply' p a) = apply (plain_node a)
  plain_node (Compose' p a instances) = compose (plain_node a) (plain_runners instances)
  plain_node (Collect starts) = collect (plain_tracks starts)

  -- runners by their starts
  pub plain_runners : runners.Runners → Runners
  plain_runners (runners.Runners' shape row) = row_fed row

  pub row_fed : {n : _} → runners.Row_of-Instance n → Runners
  row_fed runners.end_of-Instance = no_runners
  row_fed (runners.more_of-Instance outer position answer node rest) =
      fed outer (runner position answer (plain_node node)) (row_fed rest)

  -- runners by their keys
  pub plain_keys : keys.KeyDumps → Keys
  plain_keys (keys.KeyDumps' alloc shape row) = row_keyed row

  pub row_keyed : {n : _} → keys.Row_of-KeyDump n → Keys
  row_keyed keys.end_of-KeyDump = no_keys
  row_keyed (keys.more_of-KeyDump key position answer node rest) =
      keyed key (runner position answer (plain_node node)) (row_keyed rest)

  -- the starts of a collect
  pub plain_tracks : tracks.TrackDumps → Tracks
  plain_tracks (tracks.TrackDumps' shape row) = row_tracks row

  pub row_tracks : {n : _} → tracks.Row_of-TrackDump n → Tracks
  row_tracks tracks.end_of-TrackDump = no_tracks
  row_tracks (tracks.more_of-TrackDump (TrackDump' start state position answer node others) rest) =
      track start state (runner position answer (plain_node node)) (plain_keys others)
      (row_tracks rest)

-- a runner
abbrev pub plain_runner : RunnerDump → Runner
plain_runner dump = runner dump.position dump.answer (plain_node dump.node)

-- runners by their starts are seen as this list
abbrev pub runners_of : runners.Runners → List Fed
runners_of instances = fed_list (plain_runners instances)

-- runners by their keys are seen as this list
abbrev pub keys_of : keys.KeyDumps → List Keyed
keys_of others = keyed_list (plain_keys others)

-- the starts of a collect are seen as this list
abbrev pub tracks_of : tracks.TrackDumps → List Track
tracks_of starts = track_list (plain_tracks starts)
