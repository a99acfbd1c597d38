-- Statement. What the runner follows, and what it keeps.
use Rattle.std.specs.Prelude.{◌≡◌, ◌⊎◌, ℕ, Bool, true, false, List}
use Rattle.item_schema.specs.declared.column.Column.{Column}
use Rattle.rate_expr.specs.Words.{Word}
use Rattle.query_model.specs.Queries.{Qre, plain_of}
use Rattle.query_model.specs.QueryTypes.{type_of}
use Rattle.query_model.specs.Rules.{HasNoCollect}
use Rattle.eval_nodes.specs.Counts.{size_of_runner, stored_in}
use Rattle.eval_nodes.specs.Plain.{seen_of}
use Rattle.eval_nodes.specs.Sound.{IsSound, IsSoundRunner}
use Rattle.eval_nodes.specs.Runners.{IsAt}
use Rattle.eval_runner.specs.declared.runner.Runner.{Runner}

-- its query, and the columns of its stream
abbrev pub query_of : Runner → Qre
query_of runner = plain_of runner.checked.now.main.shape

abbrev pub columns_of : Runner → List Column
columns_of runner = runner.checked.now.layout.columns

-- how many items have gone by
abbrev pub position_of : Runner → ℕ
position_of runner = runner.progress.position

-- it was out of memory, and so has lost its word
abbrev pub is_lost : Runner → Bool
is_lost runner = runner.failed

-- what it keeps, in slots: its position, its answer, and what is kept for the query
abbrev pub kept_of : Runner → ℕ
kept_of runner =
    size_of_runner seen_of (stored_in seen_of (query_of runner)) runner.progress

-- it is sound if it is not lost, and it is never lost if the query has no collect
pub record IsSoundly (runner : Runner) : Type 0 where
  pub sound : ((runner.failed ≡ true) × (HasNoCollect (query_of runner) → ⊥))
      ⊎ IsSoundRunner seen_of
      (IsSound seen_of (columns_of runner) (query_of runner))
      (type_of (columns_of runner) (query_of runner)) runner.progress

-- it is not lost, and follows the word
pub record Follows (runner : Runner) (word : Word) : Type 0 where
  pub found : runner.failed ≡ false
  pub at : IsAt (columns_of runner) (query_of runner) word runner.progress
