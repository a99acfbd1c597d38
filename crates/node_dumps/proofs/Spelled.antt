-- What fits a checked query has bytes that can be read again, where they are few.
use Rattle.std.proofs.Common.{◌≡◌, ◌<◌, ◌≤◌, ◌+◌, ◌^◌, ℕ, zero, suc, List, ◌++◌, length}
use Rattle.std.proofs.Common.{arith, refl, subst, sym}
use Rattle.std.specs.List.{AllByRecursion}
use Rattle.std.proofs.Math.Nat.{pow-le-pow_right}
use Rattle.value_ops.specs.declared.value.ValueType.{ValueType}
use Rattle.value_ops.specs.declared.value.ValueType.TheVariants.{Number}
use Rattle.item_schema.specs.declared.column.Column.{Column}
use Rattle.language_base.specs.Limits.{max_positions}
use Rattle.rate_expr.specs.Rates.{Regex, size_of}
use Rattle.rate_expr.specs.declared.state.State.{State}
use Rattle.rate_expr.specs.declared.state.State.TheVariants.{Initial, At}
use Rattle.query_model.specs.Bounds.{nodes_of}
use Rattle.query_model.specs.Checked.{CheckedQuery, IsChecked}
use Rattle.query_model.specs.Queries as query
use Rattle.query_model.specs.Queries.{Qre, plain_of}
use Rattle.query_model.specs.QueryTypes.{derived_columns, type_of}
use Rattle.query_model.specs.Sizes.{HasFewPositions}
use Rattle.eval_nodes.proofs.Instances.{all_mapped}
use Rattle.runner_snapshot.specs.Bytes.{answer_bytes, entries_bytes, fed_bytes, in_eight, in_four}
use Rattle.runner_snapshot.specs.Bytes.{keyed_bytes, keys_bytes, node_bytes, runner_bytes}
use Rattle.runner_snapshot.specs.Bytes.{runners_bytes, state_bytes, text_bytes, track_bytes}
use Rattle.runner_snapshot.specs.Bytes.{tracks_bytes}
use Rattle.runner_snapshot.specs.Dumps.{Runner, Node, Runners, Tracks, Keys, runner, atom, eps}
use Rattle.runner_snapshot.specs.Dumps.{choice, split, iter, combine, apply, compose, collect}
use Rattle.runner_snapshot.specs.Dumps.{no_runners, fed, no_tracks, track, no_keys, keyed}
use Rattle.runner_snapshot.specs.Dumps.{fed_list, keyed_list, track_list}
use Rattle.runner_snapshot.specs.Ranges.{AreCounted, IsFedWith, IsKeyedWith, IsNode, IsPlace}
use Rattle.runner_snapshot.specs.Ranges.{IsRunner, IsRunnerWith, IsState, IsTrackWith, max_levels}
use Rattle.runner_snapshot.specs.Stops.{max_snapshot}
use Rattle.eval_snapshot.specs.Fits.{Fits, FitsFed, FitsNode, FitsRunner, FitsState, FitsTrack}
use Rattle.eval_snapshot.specs.Fits.{max_position}
use Rattle.node_dumps.proofs.SpelledValues.{AreFew, after, answer_some, answer_spelled, back}
use Rattle.node_dumps.proofs.SpelledValues.{before, front, grows, under, waiting_spelled}

-- the state of a rate that has few positions
state_spelled : (rate : Regex) (state : State) → size_of rate ≤ max_positions → FitsState rate state
    → IsState state
state_spelled rate Initial small is = tt
state_spelled rate (At mask) small is =
    let two : zero < 2 = omega arith in
    let most : 2 ^ size_of rate ≤ 2 ^ 128 = pow-le-pow_right two small in
    omega (arith, is, most)

-- ---- lists are no longer than their bytes

runner_some : (one : Runner) → 1 ≤ length (runner_bytes one)
runner_some (runner position answer node) =
    after (in_eight position) (answer_bytes answer ++ node_bytes node) 1
    (before (answer_bytes answer) (node_bytes node) 1 (answer_some answer))

fed_count : (all : Runners) → length (fed_list all) ≤ length (fed_bytes all)
fed_count no_runners = omega arith
fed_count (fed outer first rest) =
    after (in_eight outer) (runner_bytes first ++ fed_bytes rest) (suc (length (fed_list rest)))
    (grows (runner_bytes first) (fed_bytes rest) (length (fed_list rest)) (runner_some first)
    (fed_count rest))

keyed_count : (all : Keys) → length (keyed_list all) ≤ length (keyed_bytes all)
keyed_count no_keys = omega arith
keyed_count (keyed key first rest) =
    grows (text_bytes key ++ runner_bytes first) (keyed_bytes rest) (length (keyed_list rest))
    (after (text_bytes key) (runner_bytes first) 1 (runner_some first)) (keyed_count rest)

track_count : (all : Tracks) → length (track_list all) ≤ length (track_bytes all)
track_count no_tracks = omega arith
track_count (track start state fallback keys rest) =
    let begun = in_eight start ++ state_bytes state in
    grows (begun ++ runner_bytes fallback ++ keys_bytes keys) (track_bytes rest)
    (length (track_list rest))
    (before (begun ++ runner_bytes fallback) (keys_bytes keys) 1
    (after begun (runner_bytes fallback) 1 (runner_some fallback)))
    (track_count rest)

-- ---- runners whose nodes are some of these

module _ (fits : ℕ → Node → Type 0) (P : Node → Type 0) (type : ValueType) (most : ℕ)
    (far : most < 2 ^ 64)
    (step : (position : ℕ) (node : Node) → position ≤ most → fits position node
    → AreFew (node_bytes node) → P node) where
  runner_spelled : (one : Runner) → FitsRunner most fits type one → AreFew (runner_bytes one)
      → IsRunnerWith P one
  runner_spelled (runner position answer node) is few =
      let within : position ≤ most = is.0 in
      let rest = back (in_eight position) (answer_bytes answer ++ node_bytes node) few in (
        omega (arith, within, far),
        answer_spelled type answer is.1 (front (answer_bytes answer) (node_bytes node) rest),
        step position node is.0 is.2 (back (answer_bytes answer) (node_bytes node) rest),
      )

  keyed_each : (all : Keys) → AllByRecursion (λ key. FitsRunner most fits type key.runner)
      (keyed_list all) → AreFew (keyed_bytes all) → AllByRecursion (IsKeyedWith P) (keyed_list all)
  keyed_each no_keys is few = tt
  keyed_each (keyed key first rest) is few =
      let one = front (text_bytes key ++ runner_bytes first) (keyed_bytes rest) few in (
        (
          back (in_four (length key)) key (front (text_bytes key) (runner_bytes first) one),
          runner_spelled first is.0 (back (text_bytes key) (runner_bytes first) one),
        ),
        keyed_each rest is.1 (back (text_bytes key ++ runner_bytes first) (keyed_bytes rest) few),
      )

  keys_spelled : (all : Keys) → AllByRecursion (λ key. FitsRunner most fits type key.runner)
      (keyed_list all) → AreFew (keys_bytes all) → AreCounted (IsKeyedWith P) (keyed_list all)
  keys_spelled all is few =
      let bytes = back (in_four (length (keyed_list all))) (keyed_bytes all) few in
      let within = keyed_count all in
      (omega (arith, bytes, within), keyed_each all is bytes)

  track_each : (rate : Regex) → size_of rate ≤ max_positions → (all : Tracks)
      → AllByRecursion (FitsTrack fits type rate most) (track_list all) → AreFew (track_bytes all)
      → AllByRecursion (IsTrackWith P) (track_list all)
  track_each rate small no_tracks is few = tt
  track_each rate small (track start state fallback keys rest) is few =
      let within = is.0.start in
      let begun = in_eight start ++ state_bytes state in
      let one = front (begun ++ runner_bytes fallback ++ keys_bytes keys) (track_bytes rest) few in (
        (
          omega (arith, within, far),
          state_spelled rate state small is.0.state,
          runner_spelled fallback is.0.fallback (back begun (runner_bytes fallback)
              (front (begun ++ runner_bytes fallback) (keys_bytes keys) one)),
          keys_spelled keys is.0.keys (back (begun ++ runner_bytes fallback) (keys_bytes keys) one),
        ),
        track_each rate small rest is.1
            (back (begun ++ runner_bytes fallback ++ keys_bytes keys) (track_bytes rest) few),
      )

  tracks_spelled : (rate : Regex) → size_of rate ≤ max_positions → (all : Tracks)
      → AllByRecursion (FitsTrack fits type rate most) (track_list all) → AreFew (tracks_bytes all)
      → AreCounted (IsTrackWith P) (track_list all)
  tracks_spelled rate small all is few =
      let bytes = back (in_four (length (track_list all))) (track_bytes all) few in
      let within = track_count all in
      (omega (arith, bytes, within), track_each rate small all is bytes)

  fed_each : (position : ℕ) → most ≡ position + 1 → (all : Runners)
      → AllByRecursion (FitsFed fits type position) (fed_list all) → AreFew (fed_bytes all)
      → AllByRecursion (IsFedWith P) (fed_list all)
  fed_each position same no_runners is few = tt
  fed_each position same (fed outer first rest) is few =
      let within = is.0.outer in
      let others = back (in_eight outer) (runner_bytes first ++ fed_bytes rest) few in
      let one : FitsRunner most fits type first =
      subst (λ (n : ℕ). FitsRunner n fits type first) (sym same) is.0.runner in (
        (
          omega (arith, within, far, same),
          runner_spelled first one (front (runner_bytes first) (fed_bytes rest) others),
        ),
        fed_each position same rest is.1 (back (runner_bytes first) (fed_bytes rest) others),
      )

  fed_spelled : (position : ℕ) → most ≡ position + 1 → (all : Runners)
      → AllByRecursion (FitsFed fits type position) (fed_list all) → AreFew (runners_bytes all)
      → AreCounted (IsFedWith P) (fed_list all)
  fed_spelled position same all is few =
      let bytes = back (in_four (length (fed_list all))) (fed_bytes all) few in
      let within = fed_count all in
      (omega (arith, bytes, within), fed_each position same all is bytes)

-- ---- nodes

some_nodes : (q : Qre) → 1 ≤ nodes_of q
some_nodes (query.atom pred e) = omega arith
some_nodes (query.eps number) = omega arith
some_nodes (query.choice f g) = omega arith
some_nodes (query.split f g e) = omega arith
some_nodes (query.iter f number e) = omega arith
some_nodes (query.combine f g e) = omega arith
some_nodes (query.apply f e) = omega arith
some_nodes (query.compose f g) = omega arith
some_nodes (query.collect chosen sync rate f) = omega arith

-- no more nodes are inside one another than the query has
node_spelled : (columns : List Column) (q : Qre) (position levels : ℕ) (node : Node)
    → FitsNode columns q position node → HasFewPositions q → nodes_of q ≤ levels
    → position + nodes_of q < 2 ^ 64 → AreFew (node_bytes node) → IsNode levels node
unfolding IsNode
node_spelled columns q position zero node is small deep far few =
    let some = some_nodes q in absurd (omega (arith, deep, some))
node_spelled columns (query.atom pred e) position (suc levels) (atom starts) is small deep far few = (
  is.0,
  all_mapped (λ (start : ℕ). start ≤ position) IsPlace starts
      (λ start within. omega (arith, within, far)) is.1,
)
node_spelled columns (query.eps number) position (suc levels) eps is small deep far few = tt
node_spelled columns (query.choice f g) position (suc levels) (choice a b) is small deep far few =
    let both = under 3 (node_bytes a ++ node_bytes b) few in (
      node_spelled columns f position levels a is.0 small.0 (omega (arith, deep))
          (omega (arith, far)) (front (node_bytes a) (node_bytes b) both),
      node_spelled columns g position levels b is.1 small.1 (omega (arith, deep))
          (omega (arith, far)) (back (node_bytes a) (node_bytes b) both),
    )
node_spelled columns (query.split f g e) position (suc levels) (split a b entries) is small deep far
    few =
    let all = under 4 (node_bytes a ++ node_bytes b ++ entries_bytes entries) few in
    let both = front (node_bytes a ++ node_bytes b) (entries_bytes entries) all in (
      node_spelled columns f position levels a is.0 small.0 (omega (arith, deep))
          (omega (arith, far)) (front (node_bytes a) (node_bytes b) both),
      node_spelled columns g position levels b is.1 small.1 (omega (arith, deep))
          (omega (arith, far)) (back (node_bytes a) (node_bytes b) both),
      waiting_spelled (type_of columns f) position entries (omega (arith, far)) is.2.each
          (back (node_bytes a ++ node_bytes b) (entries_bytes entries) all),
    )
node_spelled columns (query.iter f number e) position (suc levels) (iter a entries) is small deep far
    few =
    let both = under 5 (node_bytes a ++ entries_bytes entries) few in (
      node_spelled columns f position levels a is.0 small (omega (arith, deep))
          (omega (arith, far)) (front (node_bytes a) (entries_bytes entries) both),
      waiting_spelled Number position entries (omega (arith, far)) is.1.each
          (back (node_bytes a) (entries_bytes entries) both),
    )
node_spelled columns (query.combine f g e) position (suc levels) (combine a b) is small deep far few =
    let both = under 6 (node_bytes a ++ node_bytes b) few in (
      node_spelled columns f position levels a is.0 small.0 (omega (arith, deep))
          (omega (arith, far)) (front (node_bytes a) (node_bytes b) both),
      node_spelled columns g position levels b is.1 small.1 (omega (arith, deep))
          (omega (arith, far)) (back (node_bytes a) (node_bytes b) both),
    )
node_spelled columns (query.apply f e) position (suc levels) (apply a) is small deep far few =
    node_spelled columns f position levels a is small (omega (arith, deep)) (omega (arith, far))
    (under 7 (node_bytes a) few)
node_spelled columns (query.compose f g) position (suc levels) (compose a runners) is small deep far
    few =
    let inner = derived_columns (type_of columns f) in
    let both = under 8 (node_bytes a ++ runners_bytes runners) few in (
      node_spelled columns f position levels a is.0 small.0 (omega (arith, deep))
          (omega (arith, far)) (front (node_bytes a) (runners_bytes runners) both),
      fed_spelled (FitsNode inner g) (IsNode levels) (type_of inner g) (position + 1)
          (let some = some_nodes f in omega (arith, far, some))
          (λ at node within fits short. node_spelled inner g at levels node fits small.1
          (omega (arith, deep)) (omega (arith, within, far)) short)
          position refl runners is.3 (back (node_bytes a) (runners_bytes runners) both),
    )
node_spelled columns (query.collect chosen sync rate f) position (suc levels) (collect tracks) is
    small deep far few =
    tracks_spelled (FitsNode columns f) (IsNode levels) (type_of columns f) position
    (omega (arith, far))
    (λ at node within fits short. node_spelled columns f at levels node fits small.0
    (omega (arith, deep)) (omega (arith, within, far)) short)
    rate small.1 tracks is.2 (under 9 (tracks_bytes tracks) few)
node_spelled columns q position (suc levels) node is small deep far few = absurd is

-- the same of a runner
pub fits_spelled : (on : CheckedQuery) (dump : Runner) → IsChecked on
    → Fits on.layout.columns (plain_of on.main.shape) dump
    → length (runner_bytes dump) ≤ max_snapshot → IsRunner dump
unfolding max_levels
fits_spelled on dump checked fits few =
    let columns = on.layout.columns in
    let q = plain_of on.main.shape in
    let nodes = checked.small.nodes in
    runner_spelled (FitsNode columns q) (IsNode max_levels) (type_of columns q) max_position
    (omega arith)
    (λ at node within is short. node_spelled columns q at max_levels node is checked.small.positions
    (omega (arith, nodes)) (omega (arith, nodes, within)) short)
    dump fits (omega (arith, few))
