-- Statement. The bytes of a snapshot. Each number has its highest byte first, and each list is
-- after its count.
use Rattle.std.specs.Prelude.{ℕ, ◌/◌, ◌%◌, ◌^◌, List, [], ◌∷◌, ◌++◌, Option, None, Some, length}
use Rattle.std.specs.Prelude.{codes, Bool, if◌then◌else◌}
use Rattle.std.specs.Int.{w8, w32, w64, cast_unsigned, to_be_bytes}
use Rattle.std.specs.List.{flat_map}
use Rattle.value_ops.specs.declared.scalar.Scalar.{Scalar}
use Rattle.value_ops.specs.declared.scalar.Scalar.TheVariants.{Number, Overflow, DivZero}
use Rattle.value_ops.specs.declared.value.Value.{Value}
use Rattle.value_ops.specs.declared.value.Value.TheVariants as value
use Rattle.runner_snapshot.specs.declared.entries.Entry.{Entry}
use Rattle.rate_expr.specs.declared.state.State.{State}
use Rattle.rate_expr.specs.declared.state.State.TheVariants.{Initial, At}
use Rattle.runner_snapshot.specs.Dumps.{Runner, Node, Runners, Tracks, Keys, runner, atom, eps}
use Rattle.runner_snapshot.specs.Dumps.{choice, split, iter, combine, apply, compose, collect}
use Rattle.runner_snapshot.specs.Dumps.{no_runners, fed, no_tracks, track, no_keys, keyed}
use Rattle.runner_snapshot.specs.Dumps.{fed_list, keyed_list, track_list}

-- a number in one byte
abbrev pub in_one : ℕ → List ℕ
in_one number = to_be_bytes w8 number

-- a number in four bytes
abbrev pub in_four : ℕ → List ℕ
in_four number = to_be_bytes w32 number

-- a number in eight bytes
abbrev pub in_eight : ℕ → List ℕ
in_eight number = to_be_bytes w64 number

-- a number in sixteen bytes, the eight higher ones first
abbrev pub in_sixteen : ℕ → List ℕ
in_sixteen number = in_eight (number / 2 ^ 64) ++ in_eight (number % 2 ^ 64)

-- a text after its length
abbrev pub text_bytes : List ℕ → List ℕ
text_bytes text = in_four (length text) ++ text

-- a scalar after its tag; a number in the eight bytes of its two's complement
abbrev pub scalar_bytes : Scalar → List ℕ
scalar_bytes (Number number) = 0 ∷ in_eight (cast_unsigned w64 number)
scalar_bytes Overflow = 1 ∷ []
scalar_bytes DivZero = 2 ∷ []

-- a key and the scalar under it
abbrev pub entry_bytes : List ℕ × Scalar → List ℕ
entry_bytes entry = text_bytes entry.0 ++ scalar_bytes entry.1

-- the entries of a table
abbrev pub table_bytes : List (List ℕ × Scalar) → List ℕ
table_bytes entries = in_four (length entries) ++ flat_map entry_bytes entries

-- the parts of a record, with their count in one byte
abbrev pub parts_bytes : List Scalar → List ℕ
parts_bytes parts = length parts ∷ flat_map scalar_bytes parts

-- a value after its tag
abbrev pub value_bytes : Value → List ℕ
value_bytes (value.Scalar scalar) = scalar_bytes scalar
value_bytes (value.Table entries) = 3 ∷ table_bytes entries
value_bytes (value.Rec parts) = 4 ∷ parts_bytes parts

-- an answer, or that there is none
abbrev pub answer_bytes : Option Value → List ℕ
answer_bytes None = 255 ∷ []
answer_bytes (Some answer) = value_bytes answer

-- the state of an automaton: position p is the bit of 2 ^ p
abbrev pub state_bytes : State → List ℕ
state_bytes Initial = 0 ∷ []
state_bytes (At mask) = 1 ∷ in_sixteen mask

-- a value that waits, after its inner and its outer start
abbrev pub waiting_bytes : Entry → List ℕ
waiting_bytes entry = in_eight entry.inner ++ in_eight entry.outer ++ value_bytes entry.value

-- the values that wait
abbrev pub entries_bytes : List Entry → List ℕ
entries_bytes entries = in_four (length entries) ++ flat_map waiting_bytes entries

-- the starts of an atom, with their count in one byte
abbrev pub starts_bytes : List ℕ → List ℕ
starts_bytes starts = in_one (length starts) ++ flat_map in_eight starts

abbrev mutual
  -- a runner: its position, its answer and its node
  pub runner_bytes : Runner → List ℕ
  runner_bytes (runner position answer node) =
      in_eight position ++ answer_bytes answer ++ node_bytes node

  -- a node after its tag
  pub node_bytes : Node → List ℕ
  node_bytes (atom starts) = 1 ∷ starts_bytes starts
  node_bytes eps = 2 ∷ []
  node_bytes (choice a b) = 3 ∷ node_bytes a ++ node_bytes b
  node_bytes (split a b entries) = 4 ∷ node_bytes a ++ node_bytes b ++ entries_bytes entries
  node_bytes (iter a entries) = 5 ∷ node_bytes a ++ entries_bytes entries
  node_bytes (combine a b) = 6 ∷ node_bytes a ++ node_bytes b
  node_bytes (apply a) = 7 ∷ node_bytes a
  node_bytes (compose a runners) =
      8 ∷ node_bytes a ++ (in_four (length (fed_list runners)) ++ fed_bytes runners)
  node_bytes (collect tracks) = 9 ∷ in_four (length (track_list tracks)) ++ track_bytes tracks

  -- runners, each after the start that feeds it
  pub fed_bytes : Runners → List ℕ
  fed_bytes no_runners = []
  fed_bytes (fed outer first rest) = in_eight outer ++ runner_bytes first ++ fed_bytes rest

  -- starts, each with its state, the runner for later keys, and the runners for keys
  pub track_bytes : Tracks → List ℕ
  track_bytes no_tracks = []
  track_bytes (track start state fallback keys rest) =
      in_eight start ++ state_bytes state ++ runner_bytes fallback
      ++ (in_four (length (keyed_list keys)) ++ keyed_bytes keys) ++ track_bytes rest

  -- runners, each after its key
  pub keyed_bytes : Keys → List ℕ
  keyed_bytes no_keys = []
  keyed_bytes (keyed key first rest) = text_bytes key ++ runner_bytes first ++ keyed_bytes rest

-- the count of runners, and then the runners
abbrev pub runners_bytes : Runners → List ℕ
runners_bytes runners = in_four (length (fed_list runners)) ++ fed_bytes runners

-- the same with keys
abbrev pub keys_bytes : Keys → List ℕ
keys_bytes keys = in_four (length (keyed_list keys)) ++ keyed_bytes keys

-- the count of starts, and then the starts
abbrev pub tracks_bytes : Tracks → List ℕ
tracks_bytes tracks = in_four (length (track_list tracks)) ++ track_bytes tracks

-- what a snapshot has: a query text, whether lines were taken, and a runner
pub record Snapshot : Type 0 where
  pub text : List ℕ
  pub began : Bool
  pub dump : Runner

-- the snapshot of these
abbrev pub snapshot_with : List ℕ → Bool → Runner → Snapshot
snapshot_with text began dump = record { text = text; began = began; dump = dump }

-- what each snapshot begins with
abbrev pub head : List ℕ
head = codes "SQRE0001"

-- whether lines were taken, in a byte
abbrev pub flag : Bool → ℕ
flag began = if began then 1 else 0

-- what comes after it: the query text, whether lines were taken, and the runner
abbrev pub body_bytes : Snapshot → List ℕ
body_bytes snapshot =
    text_bytes snapshot.text ++ flag snapshot.began ∷ [] ++ runner_bytes snapshot.dump

-- the whole snapshot
abbrev pub snapshot_bytes : Snapshot → List ℕ
snapshot_bytes snapshot = head ++ body_bytes snapshot
