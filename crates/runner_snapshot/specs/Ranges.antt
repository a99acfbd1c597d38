-- Statement. What has the bytes of a snapshot: numbers and counts that fit theirs, values as they
-- are, and not too many nodes inside one another.
use Rattle.std.specs.Prelude.{◌<◌, ◌≤◌, ◌^◌, ℕ, zero, suc, Option, MatchOption, List, length}
use Rattle.std.specs.List.{AllByRecursion}
use Rattle.few_parts.specs.Sizes.{IsRecordSize}
use Rattle.language_base.specs.Limits.{max_text}
use Rattle.rate_expr.specs.declared.state.State.{State}
use Rattle.rate_expr.specs.declared.state.State.TheVariants.{Initial, At}
use Rattle.value_ops.specs.Entries.{HasDistinctKeys}
use Rattle.value_ops.specs.Types.{IsScalar}
use Rattle.value_ops.specs.declared.scalar.Scalar.{Scalar}
use Rattle.value_ops.specs.declared.value.Value.{Value}
use Rattle.value_ops.specs.declared.value.Value.TheVariants as value
use Rattle.runner_snapshot.specs.declared.entries.Entry.{Entry}
use Rattle.runner_snapshot.specs.Bytes.{Snapshot}
use Rattle.runner_snapshot.specs.Dumps.{Runner, Node, runner, atom, eps, choice, split, iter}
use Rattle.runner_snapshot.specs.Dumps.{combine, apply, compose, collect, Fed, Keyed, Track}
use Rattle.runner_snapshot.specs.Dumps.{fed_list, keyed_list, track_list}

-- a count
abbrev pub IsCount : ℕ → Type 0
IsCount count = count < 2 ^ 32

-- a position or a start
abbrev pub IsPlace : ℕ → Type 0
IsPlace place = place < 2 ^ 64

-- a list with a count
abbrev pub AreCounted : {A : Type 0} → (A → Type 0) → List A → Type 0
AreCounted P items = IsCount (length items) × AllByRecursion P items

-- a text with a length
abbrev pub IsShort : List ℕ → Type 0
IsShort text = IsCount (length text)

-- a key and a scalar
abbrev pub IsTableEntry : List ℕ × Scalar → Type 0
IsTableEntry entry = IsShort entry.0 × IsScalar entry.1

-- a value
abbrev pub IsValue : Value → Type 0
IsValue (value.Scalar scalar) = IsScalar scalar
IsValue (value.Table entries) = AreCounted IsTableEntry entries × HasDistinctKeys entries
IsValue (value.Rec parts) = IsRecordSize (length parts) × AllByRecursion IsScalar parts

-- an answer
abbrev pub IsReadableAnswer : Option Value → Type 0
IsReadableAnswer answer = MatchOption answer (Unit {0}) IsValue

-- a state
abbrev pub IsState : State → Type 0
IsState Initial = Unit {0}
IsState (At mask) = mask < 2 ^ 128

-- a value that waits
abbrev pub IsWaiting : Entry → Type 0
IsWaiting entry = IsPlace entry.inner × IsPlace entry.outer × IsValue entry.value

-- a runner whose node is one of these
abbrev pub IsRunnerWith : (Node → Type 0) → Runner → Type 0
IsRunnerWith P (runner position answer node) = IsPlace position × IsReadableAnswer answer × P node

-- the same with its start
abbrev pub IsFedWith : (Node → Type 0) → Fed → Type 0
IsFedWith P fed = IsPlace fed.outer × IsRunnerWith P fed.runner

-- the same with its key
abbrev pub IsKeyedWith : (Node → Type 0) → Keyed → Type 0
IsKeyedWith P keyed = IsShort keyed.key × IsRunnerWith P keyed.runner

-- a start of a collect, with runners whose nodes are some of these
abbrev pub IsTrackWith : (Node → Type 0) → Track → Type 0
IsTrackWith P track =
    IsPlace track.start × IsState track.state × IsRunnerWith P track.fallback
    × AreCounted (IsKeyedWith P) (keyed_list track.keys)

-- a node in which the nodes are some of these
abbrev pub IsNodeWith : (Node → Type 0) → Node → Type 0
IsNodeWith P (atom starts) = (length starts ≤ 1) × AllByRecursion IsPlace starts
IsNodeWith P eps = Unit {0}
IsNodeWith P (choice a b) = P a × P b
IsNodeWith P (split a b entries) = P a × P b × AreCounted IsWaiting entries
IsNodeWith P (iter a entries) = P a × AreCounted IsWaiting entries
IsNodeWith P (combine a b) = P a × P b
IsNodeWith P (apply a) = P a
IsNodeWith P (compose a runners) = P a × AreCounted (IsFedWith P) (fed_list runners)
IsNodeWith P (collect tracks) = AreCounted (IsTrackWith P) (track_list tracks)

-- a node in which at most so many nodes are inside one another, the node itself counted
unfoldable pub IsNode : ℕ → Node → Type 0
IsNode zero node = ⊥
IsNode (suc levels) node = IsNodeWith (IsNode levels) node

-- how many may be
unfoldable pub max_levels : ℕ
max_levels = 1024

-- a runner
abbrev pub IsRunner : Runner → Type 0
IsRunner one = IsRunnerWith (IsNode max_levels) one

-- a snapshot: a query text that is no longer than one may be, and a runner
pub record IsSnapshot (snapshot : Snapshot) : Type 0 where
  pub text : length snapshot.text ≤ max_text
  pub dump : IsRunner snapshot.dump
