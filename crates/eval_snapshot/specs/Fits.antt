-- Statement. What fits a query: it has the query's shape, it is no larger than what a runner of the
-- query keeps, no start stands twice in one of its lists, and values have their types.
use Rattle.std.specs.Prelude.{◌<◌, ◌≤◌, ℕ, ◌+◌, ◌^◌, List, length, map}
use Rattle.std.specs.List.{AllByRecursion, IsDistinct}
use Rattle.std.specs.Str.{bytes_eq}
use Rattle.value_ops.specs.declared.value.ValueType.{ValueType}
use Rattle.value_ops.specs.declared.value.ValueType.TheVariants.{Number}
use Rattle.value_ops.specs.Types.{IsValueOf}
use Rattle.item_schema.specs.declared.column.Column.{Column}
use Rattle.rate_expr.specs.Rates.{Regex, size_of}
use Rattle.rate_expr.specs.declared.state.State.{State}
use Rattle.rate_expr.specs.declared.state.State.TheVariants.{Initial, At}
use Rattle.query_model.specs.Bounds.{places_of}
use Rattle.query_model.specs.Queries as query
use Rattle.query_model.specs.Queries.{Qre}
use Rattle.query_model.specs.QueryTypes.{derived_columns, type_of}
use Rattle.eval_nodes.specs.Sound.{IsTyped}
use Rattle.eval_nodes.specs.Starts.{AreDifferent}
use Rattle.runner_snapshot.specs.declared.entries.Entry.{Entry}
use Rattle.runner_snapshot.specs.Dumps.{Runner, Node, runner, atom, eps, choice, split, iter}
use Rattle.runner_snapshot.specs.Dumps.{combine, apply, compose, collect, Fed, Track}
use Rattle.runner_snapshot.specs.Dumps.{fed_list, keyed_list, track_list}

-- how far a runner that is saved may be
abbrev pub max_position : ℕ
max_position = 2 ^ 62

-- a value that waits after so many items
pub record FitsWaiting (type : ValueType) (position : ℕ) (entry : Entry) : Type 0 where
  pub outer : entry.outer ≤ entry.inner
  pub inner : entry.inner ≤ position
  pub typed : IsValueOf type entry.value

-- the values that wait, at most this many
pub record FitWaiting (type : ValueType) (places position : ℕ)
    (entries : List Entry) : Type 0 where
  pub few : length entries ≤ places
  pub distinct : AreDifferent (map (λ entry. entry.inner) entries)
  pub each : AllByRecursion (FitsWaiting type position) entries

-- the state has positions of the rate alone
abbrev pub FitsState : Regex → State → Type 0
FitsState rate Initial = Unit {0}
FitsState rate (At mask) = mask < 2 ^ size_of rate

-- a runner after at most this many items, whose node fits after as many as it saw
abbrev pub FitsRunner : ℕ → (ℕ → Node → Type 0) → ValueType → Runner → Type 0
FitsRunner most fits type (runner position answer node) =
    (position ≤ most) × IsTyped type answer × fits position node

-- a runner of a compose, after so many items of the stream of the compose
pub record FitsFed (fits : ℕ → Node → Type 0) (type : ValueType) (position : ℕ)
    (one : Fed) : Type 0 where
  pub outer : one.outer ≤ position
  pub runner : FitsRunner (position + 1) fits type one.runner

-- a start of a collect, after so many items of its stream
pub record FitsTrack (fits : ℕ → Node → Type 0) (type : ValueType) (rate : Regex) (position : ℕ)
    (one : Track) : Type 0 where
  pub start : one.start ≤ position
  pub state : FitsState rate one.state
  pub fallback : FitsRunner position fits type one.fallback
  pub distinct : IsDistinct bytes_eq (map (λ key. key.key) (keyed_list one.keys))
  pub keys : AllByRecursion (λ key. FitsRunner position fits type key.runner) (keyed_list one.keys)

-- what is kept for the query after so many items of its stream
abbrev pub FitsNode : List Column → Qre → ℕ → Node → Type 0
FitsNode columns (query.atom pred expression) position (atom starts) =
    (length starts ≤ 1) × AllByRecursion (λ start. start ≤ position) starts
FitsNode columns (query.eps number) position eps = Unit {0}
FitsNode columns (query.choice f g) position (choice a b) =
    FitsNode columns f position a × FitsNode columns g position b
FitsNode columns (query.split f g expression) position (split a b entries) =
    FitsNode columns f position a × FitsNode columns g position b
    × FitWaiting (type_of columns f) (places_of g) position entries
FitsNode columns (query.iter f number expression) position (iter a entries) =
    FitsNode columns f position a × FitWaiting Number (places_of f) position entries
FitsNode columns (query.combine f g expression) position (combine a b) =
    FitsNode columns f position a × FitsNode columns g position b
FitsNode columns (query.apply f expression) position (apply a) = FitsNode columns f position a
FitsNode columns (query.compose f g) position (compose a runners) =
    FitsNode columns f position a
    × (length (fed_list runners) ≤ places_of f + 1)
    × AreDifferent (map (λ one. one.outer) (fed_list runners))
    × AllByRecursion (FitsFed (FitsNode (derived_columns (type_of columns f)) g)
    (type_of (derived_columns (type_of columns f)) g) position) (fed_list runners)
FitsNode columns (query.collect chosen sync rate f) position (collect tracks) =
    (length (track_list tracks) ≤ size_of rate + 1)
    × AreDifferent (map (λ one. one.start) (track_list tracks))
    × AllByRecursion (FitsTrack (FitsNode columns f) (type_of columns f) rate position)
    (track_list tracks)
FitsNode columns query position node = ⊥

-- a runner of the query
abbrev pub Fits : List Column → Qre → Runner → Type 0
Fits columns query dump =
    FitsRunner max_position (FitsNode columns query) (type_of columns query) dump
