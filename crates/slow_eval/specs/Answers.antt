-- Statement. The answers of a query on all fronts of a word.
use Rattle.std.specs.Prelude.{◌≡◌, ◌≤◌, ℕ, ◌+◌, List, Option, length, take}
use Rattle.value_ops.specs.declared.value.Value.{Value}
use Rattle.item_schema.specs.declared.column.Column.{Column}
use Rattle.rate_expr.specs.Words.{Word, IsWordOf}
use Rattle.query_model.specs.Following.{IsAnswer}
use Rattle.query_model.specs.Queries.{Qre}
use Rattle.query_model.specs.Rules.{Standing, IsClear}
use Rattle.query_model.specs.Sizes.{HasFewPositions}
use Rattle.slow_eval.specs.Rows.{answer_at}

-- the query keeps the rules on some columns, the word is of items of these columns, and the rates
-- of the query have few enough positions
pub record CanBeRead (query : Qre) (word : Word) : Type 0 where
  pub standing : Standing
  pub columns : List Column
  pub clear : IsClear standing columns query
  pub is_word : IsWordOf columns word
  pub positions : HasFewPositions query

-- an answer on each front of the word, from the empty one to the whole
pub record AreAnswers (query : Qre) (word : Word) (answers : List (Option Value)) : Type 0 where
  pub count : length answers ≡ length word + 1
  pub each : (place : ℕ) → place ≤ length word
      → IsAnswer query (take place word) (answer_at answers place)
