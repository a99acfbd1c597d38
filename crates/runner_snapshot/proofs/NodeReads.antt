-- Reading nodes, and the starts of a collect, part by part.
use Rattle.std.proofs.Common.{◌≡◌, ◌-◌, ℕ, suc, List, Option, None, Some, refl, ap, ◌∙◌, arith}
use Rattle.std.specs.Int.{w64}
use Rattle.rate_expr.specs.declared.state.State.{State}
use Rattle.runner_snapshot.specs.declared.flaw.SnapStop.{SnapStop}
use Rattle.runner_snapshot.specs.declared.tags.NodeTag.{NodeTag}
use Rattle.runner_snapshot.specs.declared.tags.NodeTag.TheVariants as kind
use Rattle.runner_snapshot.specs.Dumps.{Fed, Keyed, Keys, Node, Runner, Runners, Track, Tracks}
use Rattle.runner_snapshot.specs.Dumps.{all_fed, all_keyed, all_tracks, collect, compose, fed_list}
use Rattle.runner_snapshot.specs.Dumps.{keyed_list, track_list}
use Rattle.runner_snapshot.specs.Reading.{Read, ◌>>=◌, IsUnread, byte_at, counted_at, fed_at}
use Rattle.runner_snapshot.specs.Reading.{keyed_at}
use Rattle.runner_snapshot.specs.Reading.{keys_at, node_at, node_of, number_at, runner_at}
use Rattle.runner_snapshot.specs.Reading.{runners_at}
use Rattle.runner_snapshot.specs.Reading.{state_at, track_at, tracks_at}
use Rattle.runner_snapshot.specs.Tags.{node_tag}
use Rattle.runner_snapshot.proofs.ReadNodes.{fed_back, keyed_back, track_back}
use Rattle.runner_snapshot.proofs.Repeating.{unread_first, unread_same}

-- no node is read where no level is left
pub none_left : (levels : ℕ) (bytes : List ℕ) → levels ≡ 0 → node_at levels bytes ≡ None
unfolding node_at
none_left levels bytes none = ap (λ (n : ℕ). node_at n bytes) none

-- what comes of a byte
abbrev after_byte : ℕ → ℕ × List ℕ → Read Node
after_byte levels byte = node_of (node_at levels) (node_tag byte.0) byte.1

step : (levels : ℕ) (bytes : List ℕ) → (levels ≡ 0 → ⊥)
    → node_at levels bytes ≡ (byte_at bytes >>= after_byte (levels - 1))
unfolding node_at
step levels bytes some =
    let more : levels ≡ suc (levels - 1) = omega arith in
    ap (λ (n : ℕ). node_at n bytes) more

pub node_unread : (stop : SnapStop) (levels : ℕ) (bytes : List ℕ) → (levels ≡ 0 → ⊥)
    → IsUnread stop (byte_at bytes) → IsUnread stop (node_at levels bytes)
node_unread stop levels bytes some unread =
    unread_same stop (byte_at bytes >>= after_byte (levels - 1)) (node_at levels bytes)
    (step levels bytes some)
    (unread_first stop (byte_at bytes) (after_byte (levels - 1)) unread)

pub node_read : (levels : ℕ) (bytes : List ℕ) (byte : ℕ) (rest : List ℕ) (tag : Option NodeTag)
    → (levels ≡ 0 → ⊥) → byte_at bytes ≡ Some (byte, rest) → node_tag byte ≡ tag
    → node_at levels bytes ≡ node_of (node_at (levels - 1)) tag rest
node_read levels bytes byte rest tag some reads is =
    step levels bytes some
    ∙ ap (λ (r : Read ℕ). r >>= after_byte (levels - 1)) reads
    ∙ ap (λ (t : Option NodeTag). node_of (node_at (levels - 1)) t rest) is

-- no node is read after a byte that is no tag
pub no_tag : (f : List ℕ → Read Node) (rest : List ℕ) → node_of f None rest ≡ None
unfolding node_of
no_tag f rest = refl

module _ (f : List ℕ → Read Node) where
  -- ---- composes and collects

  abbrev with_runners : Node × List ℕ → Read (Node × Runners)
  with_runners x = runners_at f x.1 >>= λ y. Some ((x.0, y.0), y.1)

  abbrev with_node : Node → Runners × List ℕ → Read (Node × Runners)
  with_node a y = Some ((a, y.0), y.1)

  abbrev composed : (Node × Runners) × List ℕ → Read Node
  composed p = Some (compose p.0.0 p.0.1, p.1)

  abbrev as_runners : List Fed × List ℕ → Read Runners
  as_runners xs = Some (all_fed xs.0, xs.1)

  pub compose_read : (bytes : List ℕ) (a : Node) (after : List ℕ) (rs : Runners) (rest : List ℕ)
      → f bytes ≡ Some (a, after) → counted_at (fed_at f) after ≡ Some (fed_list rs, rest)
      → node_of f (Some kind.Compose) bytes ≡ Some (compose a rs, rest)
  unfolding node_of runners_at
  compose_read bytes a after rs rest first second =
      ap (λ (r : Read Node). (r >>= with_runners) >>= composed) first
      ∙ ap (λ (r : Read (List Fed)). ((r >>= as_runners) >>= with_node a) >>= composed) second
      ∙ ap (λ (all : Runners). Some (compose a all, rest)) (fed_back rs)

  pub compose_unread : (stop : SnapStop) (tag : NodeTag) (bytes : List ℕ) (a : Node)
      (after : List ℕ) → tag ≡ kind.Compose → f bytes ≡ Some (a, after)
      → IsUnread stop (counted_at (fed_at f) after) → IsUnread stop (node_of f (Some tag) bytes)
  unfolding node_of runners_at
  compose_unread stop tag bytes a after is first unread =
      unread_same stop (((counted_at (fed_at f) after >>= as_runners) >>= with_node a) >>= composed)
      (node_of f (Some tag) bytes)
      (ap (λ (t : NodeTag). node_of f (Some t) bytes) is
      ∙ ap (λ (r : Read Node). (r >>= with_runners) >>= composed) first)
      (unread_first stop ((counted_at (fed_at f) after >>= as_runners) >>= with_node a) composed
      (unread_first stop (counted_at (fed_at f) after >>= as_runners) (with_node a)
      (unread_first stop (counted_at (fed_at f) after) as_runners unread)))

  abbrev as_tracks : List Track × List ℕ → Read Tracks
  as_tracks xs = Some (all_tracks xs.0, xs.1)

  abbrev collected : Tracks × List ℕ → Read Node
  collected x = Some (collect x.0, x.1)

  pub collect_read : (bytes : List ℕ) (ts : Tracks) (rest : List ℕ)
      → counted_at (track_at f) bytes ≡ Some (track_list ts, rest)
      → node_of f (Some kind.Collect) bytes ≡ Some (collect ts, rest)
  unfolding node_of tracks_at
  collect_read bytes ts rest reads =
      ap (λ (r : Read (List Track)). (r >>= as_tracks) >>= collected) reads
      ∙ ap (λ (all : Tracks). Some (collect all, rest)) (track_back ts)

  pub collect_unread : (stop : SnapStop) (tag : NodeTag) (bytes : List ℕ) → tag ≡ kind.Collect
      → IsUnread stop (counted_at (track_at f) bytes) → IsUnread stop (node_of f (Some tag) bytes)
  unfolding node_of tracks_at
  collect_unread stop tag bytes is unread =
      unread_same stop ((counted_at (track_at f) bytes >>= as_tracks) >>= collected)
      (node_of f (Some tag) bytes)
      (ap (λ (t : NodeTag). node_of f (Some t) bytes) is)
      (unread_first stop (counted_at (track_at f) bytes >>= as_tracks) collected
      (unread_first stop (counted_at (track_at f) bytes) as_tracks unread))

  -- ---- the starts of a collect

  abbrev with_state : ℕ × List ℕ → Read (ℕ × State)
  with_state x = state_at x.1 >>= λ y. Some ((x.0, y.0), y.1)

  abbrev with_runner : (ℕ × State) × List ℕ → Read ((ℕ × State) × Runner)
  with_runner x = runner_at f x.1 >>= λ y. Some ((x.0, y.0), y.1)

  abbrev with_keys : ((ℕ × State) × Runner) × List ℕ → Read (((ℕ × State) × Runner) × Keys)
  with_keys x = keys_at f x.1 >>= λ y. Some ((x.0, y.0), y.1)

  abbrev tracked : (((ℕ × State) × Runner) × Keys) × List ℕ → Read Track
  tracked x = Some (
    record {
      start = x.0.0.0.0;
      state = x.0.0.0.1;
      fallback = x.0.0.1;
      keys = x.0.1;
    },
    x.1,
  )

  abbrev after_start : ℕ → State × List ℕ → Read (ℕ × State)
  after_start start y = Some ((start, y.0), y.1)

  abbrev after_state : ℕ × State → Runner × List ℕ → Read ((ℕ × State) × Runner)
  after_state front y = Some ((front, y.0), y.1)

  abbrev after_runner : (ℕ × State) × Runner → Keys × List ℕ
      → Read (((ℕ × State) × Runner) × Keys)
  after_runner front y = Some ((front, y.0), y.1)

  abbrev as_keys : List Keyed × List ℕ → Read Keys
  as_keys xs = Some (all_keyed xs.0, xs.1)

  pub track_read : (bytes : List ℕ) (start : ℕ) (b : List ℕ) (state : State) (c : List ℕ)
      (one : Runner) (d : List ℕ) (ks : Keys) (rest : List ℕ)
      → number_at w64 bytes ≡ Some (start, b) → state_at b ≡ Some (state, c)
      → runner_at f c ≡ Some (one, d)
      → counted_at (keyed_at f) d ≡ Some (keyed_list ks, rest)
      → track_at f bytes
      ≡ Some (record { start = start; state = state; fallback = one; keys = ks }, rest)
  unfolding track_at keys_at
  track_read bytes start b state c one d ks rest starts states runs keys =
      ap (λ (r : Read ℕ). (((r >>= with_state) >>= with_runner) >>= with_keys) >>= tracked) starts
      ∙ ap (λ (r : Read State). (((r >>= after_start start) >>= with_runner) >>= with_keys)
      >>= tracked) states
      ∙ ap (λ (r : Read Runner). ((r >>= after_state (start, state)) >>= with_keys) >>= tracked)
      runs
      ∙ ap (λ (r : Read (List Keyed)). ((r >>= as_keys) >>= after_runner ((start, state), one))
      >>= tracked) keys
      ∙ ap (λ (all : Keys). tracked ((((start, state), one), all), rest)) (keyed_back ks)
