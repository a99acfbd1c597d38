-- Statement. What the runner follows: what the runner in it does. And where it stands.
use Rattle.std.specs.Prelude.{ℕ, Bool, List}
use Rattle.item_schema.specs.declared.column.Column.{Column}
use Rattle.rate_expr.specs.Words.{Word}
use Rattle.query_model.specs.Queries.{Qre}
use Rattle.eval_nodes.specs.Plain.{seen_of}
use Rattle.eval_runner.specs.Following as inner
use Rattle.runner_snapshot.specs.Dumps as dump
use Rattle.eval_snapshot.specs.Dumped.{dumped}
use Rattle.kept_runner.specs.declared.kept_runner.KeptRunner.{KeptRunner}

-- its query, and the columns of its stream
abbrev pub query_of : KeptRunner → Qre
query_of kept = inner.query_of kept.runner

abbrev pub columns_of : KeptRunner → List Column
columns_of kept = inner.columns_of kept.runner

-- how many items have gone by
abbrev pub position_of : KeptRunner → ℕ
position_of kept = inner.position_of kept.runner

-- it was out of memory, and so has lost its word
abbrev pub is_lost : KeptRunner → Bool
is_lost kept = inner.is_lost kept.runner

-- what it keeps, in slots
abbrev pub kept_of : KeptRunner → ℕ
kept_of kept = inner.kept_of kept.runner

-- it is sound if it is not lost
abbrev pub IsSoundly : KeptRunner → Type 0
IsSoundly kept = inner.IsSoundly kept.runner

-- it follows the word
abbrev pub Follows : KeptRunner → Word → Type 0
Follows kept word = inner.Follows kept.runner word

-- where it stands: what is kept of it in a snapshot
abbrev pub stands_of : KeptRunner → dump.Runner
stands_of kept = dumped seen_of (query_of kept) kept.runner.progress
