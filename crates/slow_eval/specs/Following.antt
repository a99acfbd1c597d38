-- Statement. What the engine follows, and what it keeps.
use Rattle.std.specs.Prelude.{◌≡◌, ℕ, ◌+◌, Bool, false, List, length, MatchOption}
use Rattle.value_ops.specs.Sizes.{size_of_answer}
use Rattle.value_ops.specs.Types.{IsValueOf}
use Rattle.item_schema.specs.declared.column.Column.{Column}
use Rattle.rate_expr.specs.Words.{Word, IsWordOf}
use Rattle.query_model.specs.Following.{IsAnswer}
use Rattle.query_model.specs.Queries.{Qre, plain_of}
use Rattle.query_model.specs.QueryTypes.{type_of}
use Rattle.slow_eval.specs.declared.slow.Slow.{Slow}

-- the query of the engine, and the columns of its stream
abbrev pub query_of : Slow → Qre
query_of slow = plain_of slow.checked.now.main.shape

abbrev pub columns_of : Slow → List Column
columns_of slow = slow.checked.now.layout.columns

-- how many items it has followed
abbrev pub position_of : Slow → ℕ
position_of slow = length slow.items.items

-- it was out of memory
abbrev pub is_lost : Slow → Bool
is_lost slow = slow.failed

-- how much the engine keeps: one for each item, and the answer
abbrev pub kept_of : Slow → ℕ
kept_of slow = length slow.items.items + size_of_answer slow.answer

-- the items are of the stream, and the answer, if there is one, has the type of the query
pub record IsSound (slow : Slow) : Type 0 where
  pub is_word : IsWordOf (columns_of slow) slow.items.items
  pub typed : MatchOption slow.answer (Unit {0})
      (IsValueOf (type_of (columns_of slow) (query_of slow)))

-- the engine keeps exactly this word, and the answer is that of the query on it
pub record Follows (slow : Slow) (word : Word) : Type 0 where
  pub sound : IsSound slow
  pub found : slow.failed ≡ false
  pub items : slow.items.items ≡ word
  pub answer : IsAnswer (query_of slow) word slow.answer
