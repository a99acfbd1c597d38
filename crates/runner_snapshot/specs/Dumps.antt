-- Statement. Where what follows a word of a query stands, without where it lies in memory: how many
-- items went by, the value on them, and what is kept for each node of the query.
use Rattle.std.specs.Prelude.{ℕ, List, [], ◌∷◌, Option}
use Rattle.value_ops.specs.declared.value.Value.{Value}
use Rattle.runner_snapshot.specs.declared.entries.Entry.{Entry}
use Rattle.rate_expr.specs.declared.state.State.{State}

mutual
  -- a runner: its position, its answer and its node
  pub data Runner : Type 0 where
    runner : ℕ → Option Value → Node → Runner

  -- what is kept for a node
  pub data Node : Type 0 where
    -- an atom: the start at the end of the word, if it is one
    atom : List ℕ → Node
    -- the empty word: nothing
    eps : Node
    -- a choice: the operands
    choice : Node → Node → Node
    -- a split: the operands, and the left values that wait for a right one
    split : Node → Node → List Entry → Node
    -- an iter: the operand, and the values so far that wait for a further piece
    iter : Node → List Entry → Node
    -- a combine: the operands
    combine : Node → Node → Node
    -- an apply: the operand
    apply : Node → Node
    -- a compose: the left operand, and the runners of the right one that are fed
    compose : Node → Runners → Node
    -- a collect: the live starts
    collect : Tracks → Node

  -- runners by the starts that feed them
  pub data Runners : Type 0 where
    no_runners : Runners
    fed : ℕ → Runner → Runners → Runners

  -- starts, each with a state, the runner that is copied for later keys, and the runners for keys
  pub data Tracks : Type 0 where
    no_tracks : Tracks
    track : ℕ → State → Runner → Keys → Tracks → Tracks

  -- runners by their keys
  pub data Keys : Type 0 where
    no_keys : Keys
    keyed : List ℕ → Runner → Keys → Keys

-- how many items went by
abbrev pub position_of : Runner → ℕ
position_of (runner position answer node) = position

-- a runner with the start that feeds it
pub record Fed : Type 0 where
  pub outer : ℕ
  pub runner : Runner

-- a runner with its key
pub record Keyed : Type 0 where
  pub key : List ℕ
  pub runner : Runner

-- a start with what is kept for it
pub record Track : Type 0 where
  pub start : ℕ
  pub state : State
  pub fallback : Runner
  pub keys : Keys

-- the runners as a list
abbrev pub fed_list : Runners → List Fed
fed_list no_runners = []
fed_list (fed outer first rest) = record { outer = outer; runner = first } ∷ fed_list rest

-- the runners for keys as a list
abbrev pub keyed_list : Keys → List Keyed
keyed_list no_keys = []
keyed_list (keyed key first rest) = record { key = key; runner = first } ∷ keyed_list rest

-- the starts as a list
abbrev pub track_list : Tracks → List Track
track_list no_tracks = []
track_list (track start state fallback keys rest) =
    record { start = start; state = state; fallback = fallback; keys = keys } ∷ track_list rest

-- the runners of a list
abbrev pub all_fed : List Fed → Runners
all_fed [] = no_runners
all_fed (first ∷ rest) = fed first.outer first.runner (all_fed rest)

-- the runners for keys of a list
abbrev pub all_keyed : List Keyed → Keys
all_keyed [] = no_keys
all_keyed (first ∷ rest) = keyed first.key first.runner (all_keyed rest)

-- the starts of a list
abbrev pub all_tracks : List Track → Tracks
all_tracks [] = no_tracks
all_tracks (first ∷ rest) =
    track first.start first.state first.fallback first.keys (all_tracks rest)
