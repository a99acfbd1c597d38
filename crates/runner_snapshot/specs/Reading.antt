-- For the prover. Reading from the front of bytes: what is read, and the bytes after it, if there
-- is anything to read.
use Rattle.std.specs.Prelude.{◌&&◌, ◌+◌, ◌*◌, ◌^◌, ℕ, ℤ, zero, suc, Bool, true, false}
use Rattle.std.specs.Prelude.{◌≡◌, if◌then◌else◌, Result, Ok, Err}
use Rattle.std.specs.Prelude.{nat_le, nat_lt, Option, Some, None, List, [], ◌∷◌, ◌++◌, length, take}
use Rattle.std.specs.Prelude.{drop, is_some}
use Rattle.std.specs.Int.{Width, w32, w64, byte_len, from_be_bytes, cast_signed}
use Rattle.language_base.specs.Limits.{max_text}
use Rattle.rate_expr.specs.declared.state.State.{State}
use Rattle.rate_expr.specs.declared.state.State.TheVariants.{Initial, At}
use Rattle.value_ops.specs.Entries.{value_at}
use Rattle.value_ops.specs.declared.scalar.Scalar.{Scalar}
use Rattle.value_ops.specs.declared.scalar.Scalar.TheVariants as scalar
use Rattle.value_ops.specs.declared.value.Value.{Value}
use Rattle.value_ops.specs.declared.value.Value.TheVariants as value
use Rattle.runner_snapshot.specs.declared.entries.Entry.{Entry}
use Rattle.runner_snapshot.specs.declared.flaw.Flaw.TheVariants.{Long, Head, Query, Form, Unfit}
use Rattle.runner_snapshot.specs.declared.flaw.SnapStop.{SnapStop}
use Rattle.runner_snapshot.specs.declared.flaw.SnapStop.TheVariants.{Bad, Memory}
use Rattle.runner_snapshot.specs.declared.tags.NodeTag.{NodeTag}
use Rattle.runner_snapshot.specs.declared.tags.NodeTag.TheVariants as node
use Rattle.runner_snapshot.specs.declared.tags.ValueTag.{ValueTag}
use Rattle.runner_snapshot.specs.declared.tags.ValueTag.TheVariants as tag
use Rattle.runner_snapshot.specs.Bytes.{Snapshot}
use Rattle.runner_snapshot.specs.Dumps.{Runner, Node, Runners, Tracks, Keys, runner, atom, eps}
use Rattle.runner_snapshot.specs.Dumps.{choice, split, iter, combine, apply, compose, collect}
use Rattle.runner_snapshot.specs.Dumps.{Fed, Keyed, Track}
use Rattle.runner_snapshot.specs.Dumps.{all_fed, all_keyed, all_tracks}
use Rattle.runner_snapshot.specs.Ranges.{max_levels}
use Rattle.runner_snapshot.specs.Tags.{node_tag, value_tag}

-- what is read, and the bytes after it
abbrev pub Read : Type 0 → Type 0
Read A = Option (A × List ℕ)

infixl 10 ◌>>=◌
abbrev pub ◌>>=◌ : {A B : Type 0} → Option A → (A → Option B) → Option B
(Some x) >>= f = f x
None >>= f = None

-- nothing is read, and the stop says so, or memory ran out
abbrev pub IsUnread : {A : Type 0} → SnapStop → Read A → Type 0
IsUnread (Bad Form) read = read ≡ None
IsUnread (Bad Long) read = ⊥
IsUnread (Bad Head) read = ⊥
IsUnread (Bad Query) read = ⊥
IsUnread (Bad Unfit) read = ⊥
IsUnread Memory read = Unit {0}

-- what a function gives, seen by `view`, and leaves, is what is read, unless memory ran out
abbrev pub Gives : {X A : Type 0} → (X → A) → Result X SnapStop → List ℕ → Read A → Type 0
Gives view (Ok x) rest read = read ≡ Some (view x, rest)
Gives view (Err stop) rest read = IsUnread stop read

-- what is made of what is read
abbrev pub made_at : {A B : Type 0} → (A → B) → (List ℕ → Read A) → List ℕ → Read B
made_at make f bytes = f bytes >>= λ x. Some (make x.0, x.1)

-- one thing and then another
abbrev pub pair_at : {A B : Type 0} → (List ℕ → Read A) → (List ℕ → Read B) → List ℕ
    → Read (A × B)
pair_at f g bytes = f bytes >>= λ x. g x.1 >>= λ y. Some ((x.0, y.0), y.1)

-- so many of one kind
abbrev pub repeat_at : {A : Type 0} → (List ℕ → Read A) → ℕ → List ℕ → Read (List A)
repeat_at f zero bytes = Some ([], bytes)
repeat_at f (suc count) bytes =
    f bytes >>= λ x. repeat_at f count x.1 >>= λ xs. Some (x.0 ∷ xs.0, xs.1)

-- a byte
abbrev pub byte_at : List ℕ → Read ℕ
byte_at [] = None
byte_at (byte ∷ rest) = Some (byte, rest)

-- so many bytes
abbrev pub bytes_at : ℕ → List ℕ → Read (List ℕ)
bytes_at count bytes =
    if nat_lt (length bytes) count then None else Some (take count bytes, drop count bytes)

-- a number
unfoldable pub number_at : Width → List ℕ → Read ℕ
number_at w bytes = made_at (from_be_bytes w) (bytes_at (byte_len w)) bytes

-- as many of one kind as a count before them says
unfoldable pub counted_at : {A : Type 0} → (List ℕ → Read A) → List ℕ → Read (List A)
counted_at f bytes = number_at w32 bytes >>= λ count. repeat_at f count.0 count.1

-- a text after its length
unfoldable pub text_at : List ℕ → Read (List ℕ)
text_at bytes = number_at w32 bytes >>= λ count. bytes_at count.0 count.1

-- the mask of a state, the higher half first
abbrev pub mask_of : ℕ × ℕ → ℕ
mask_of halves = halves.0 * 2 ^ 64 + halves.1

unfoldable pub mask_at : List ℕ → Read ℕ
mask_at bytes = made_at mask_of (pair_at (number_at w64) (number_at w64)) bytes

-- a state after its first byte
abbrev pub state_of : ℕ → List ℕ → Read State
state_of zero rest = Some (Initial, rest)
state_of (suc zero) rest = made_at At mask_at rest
state_of (suc (suc byte)) rest = None

unfoldable pub state_at : List ℕ → Read State
state_at bytes = byte_at bytes >>= λ byte. state_of byte.0 byte.1

-- a number with a sign
unfoldable pub signed_at : List ℕ → Read ℤ
signed_at bytes = made_at (cast_signed w64) (number_at w64) bytes

-- a scalar after its tag
unfoldable pub scalar_of : Option ValueTag → List ℕ → Read Scalar
scalar_of (Some tag.Number) rest = made_at scalar.Number signed_at rest
scalar_of (Some tag.Overflow) rest = Some (scalar.Overflow, rest)
scalar_of (Some tag.DivZero) rest = Some (scalar.DivZero, rest)
scalar_of other rest = None

unfoldable pub scalar_at : List ℕ → Read Scalar
scalar_at bytes = byte_at bytes >>= λ byte. scalar_of (value_tag byte.0) byte.1

-- so many entries of a table that has some already
abbrev pub more_entries_at : List (List ℕ × Scalar) → ℕ → List ℕ → Read (List (List ℕ × Scalar))
more_entries_at entries zero bytes = Some (entries, bytes)
more_entries_at entries (suc count) bytes =
    pair_at text_at scalar_at bytes >>= λ entry.
    if is_some (value_at entry.0.0 entries) then None
    else more_entries_at (entries ++ entry.0 ∷ []) count entry.1

-- the entries of a table
unfoldable pub entries_at : List ℕ → Read (List (List ℕ × Scalar))
entries_at bytes = number_at w32 bytes >>= λ count. more_entries_at [] count.0 count.1

-- the parts of a record
unfoldable pub parts_at : List ℕ → Read (List Scalar)
parts_at bytes =
    byte_at bytes >>= λ count.
    if nat_le 2 count.0 && nat_le count.0 8 then repeat_at scalar_at count.0 count.1 else None

-- a value after its tag
unfoldable pub value_of : Option ValueTag → List ℕ → Read Value
value_of (Some tag.Table) rest = made_at value.Table entries_at rest
value_of (Some tag.Rec) rest = made_at value.Rec parts_at rest
value_of other rest = made_at value.Scalar (scalar_of other) rest

unfoldable pub value_read_at : List ℕ → Read Value
value_read_at bytes = byte_at bytes >>= λ byte. value_of (value_tag byte.0) byte.1

-- an answer after its tag
unfoldable pub answer_of : Option ValueTag → List ℕ → Read (Option Value)
answer_of (Some tag.Absent) rest = Some (None, rest)
answer_of other rest = made_at Some (value_of other) rest

unfoldable pub answer_at : List ℕ → Read (Option Value)
answer_at bytes = byte_at bytes >>= λ byte. answer_of (value_tag byte.0) byte.1

-- a value that waits
unfoldable pub waiting_at : List ℕ → Read Entry
waiting_at bytes =
    made_at (λ parts. record { inner = parts.0.0; outer = parts.0.1; value = parts.1 })
    (pair_at (pair_at (number_at w64) (number_at w64)) value_read_at) bytes

-- the starts of an atom after their count
abbrev pub starts_of : ℕ → List ℕ → Read (List ℕ)
starts_of zero rest = Some ([], rest)
starts_of (suc zero) rest = made_at (λ start. start ∷ []) (number_at w64) rest
starts_of (suc (suc count)) rest = None

unfoldable pub starts_at : List ℕ → Read (List ℕ)
starts_at bytes = byte_at bytes >>= λ count. starts_of count.0 count.1

-- a runner, whose node is read so
unfoldable pub runner_at : (List ℕ → Read Node) → List ℕ → Read Runner
runner_at f bytes =
    made_at (λ parts. runner parts.0.0 parts.0.1 parts.1)
    (pair_at (pair_at (number_at w64) answer_at) f) bytes

-- a runner with its start
unfoldable pub fed_at : (List ℕ → Read Node) → List ℕ → Read Fed
fed_at f bytes =
    made_at (λ parts. record { outer = parts.0; runner = parts.1 })
    (pair_at (number_at w64) (runner_at f)) bytes

-- a runner with its key
unfoldable pub keyed_at : (List ℕ → Read Node) → List ℕ → Read Keyed
keyed_at f bytes =
    made_at (λ parts. record { key = parts.0; runner = parts.1 }) (pair_at text_at (runner_at f))
    bytes

-- runners with their starts
unfoldable pub runners_at : (List ℕ → Read Node) → List ℕ → Read Runners
runners_at f bytes = made_at all_fed (counted_at (fed_at f)) bytes

-- runners with their keys
unfoldable pub keys_at : (List ℕ → Read Node) → List ℕ → Read Keys
keys_at f bytes = made_at all_keyed (counted_at (keyed_at f)) bytes

-- a start of a collect
unfoldable pub track_at : (List ℕ → Read Node) → List ℕ → Read Track
track_at f bytes =
    made_at (λ parts. record {
      start = parts.0.0.0;
      state = parts.0.0.1;
      fallback = parts.0.1;
      keys = parts.1;
    })
    (pair_at (pair_at (pair_at (number_at w64) state_at) (runner_at f)) (keys_at f)) bytes

-- the starts of a collect
unfoldable pub tracks_at : (List ℕ → Read Node) → List ℕ → Read Tracks
tracks_at f bytes = made_at all_tracks (counted_at (track_at f)) bytes

-- a node after its tag, whose nodes are read so
unfoldable pub node_of : (List ℕ → Read Node) → Option NodeTag → List ℕ → Read Node
node_of f (Some node.Atom) rest = made_at atom starts_at rest
node_of f (Some node.Eps) rest = Some (eps, rest)
node_of f (Some node.Or) rest = made_at (λ parts. choice parts.0 parts.1) (pair_at f f) rest
node_of f (Some node.Split) rest =
    made_at (λ parts. split parts.0.0 parts.0.1 parts.1)
    (pair_at (pair_at f f) (counted_at waiting_at)) rest
node_of f (Some node.Iter) rest =
    made_at (λ parts. iter parts.0 parts.1) (pair_at f (counted_at waiting_at)) rest
node_of f (Some node.Combine) rest = made_at (λ parts. combine parts.0 parts.1) (pair_at f f) rest
node_of f (Some node.Apply) rest = made_at apply f rest
node_of f (Some node.Compose) rest =
    made_at (λ parts. compose parts.0 parts.1) (pair_at f (runners_at f)) rest
node_of f (Some node.Collect) rest = made_at collect (tracks_at f) rest
node_of f None rest = None

-- a node in which at most so many nodes are inside one another
unfoldable pub node_at : ℕ → List ℕ → Read Node
node_at zero bytes = None
node_at (suc levels) bytes =
    byte_at bytes >>= λ byte. node_of (node_at levels) (node_tag byte.0) byte.1

-- a query text, which is no longer than one may be
unfoldable pub query_text_at : List ℕ → Read (List ℕ)
query_text_at bytes =
    text_at bytes >>= λ text. if nat_le (length text.0) max_text then Some text else None

-- whether lines were taken
abbrev pub flag_of : ℕ → List ℕ → Read Bool
flag_of zero rest = Some (false, rest)
flag_of (suc zero) rest = Some (true, rest)
flag_of (suc (suc byte)) rest = None

unfoldable pub flag_at : List ℕ → Read Bool
flag_at bytes = byte_at bytes >>= λ byte. flag_of byte.0 byte.1

-- what comes after the head of a snapshot
unfoldable pub body_at : List ℕ → Read Snapshot
body_at bytes =
    made_at (λ parts. record { text = parts.0.0; began = parts.0.1; dump = parts.1 })
    (pair_at (pair_at query_text_at flag_at) (runner_at (node_at max_levels))) bytes
