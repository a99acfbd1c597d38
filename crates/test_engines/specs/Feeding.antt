-- Statement. When the runner of a test can be fed.
use Rattle.std.specs.Prelude.{◌≡◌, ◌≤◌, false, List}
use Rattle.item_schema.specs.declared.column.Column.{Column}
use Rattle.query_model.specs.Following.{composes_of}
use Rattle.eval_runner.specs.Following.{columns_of, is_lost, query_of, IsSoundly}
use Rattle.eval_runner.specs.declared.runner.Runner.{Runner}

-- it is sound and not lost, it is on these columns, and its query has at most one compose
pub record TakesItems (columns : List Column) (runner : Runner) : Type 0 where
  pub sound : IsSoundly runner
  pub found : is_lost runner ≡ false
  pub stream : columns_of runner ≡ columns
  pub composes : composes_of (query_of runner) ≤ 1
