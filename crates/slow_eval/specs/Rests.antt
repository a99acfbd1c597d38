-- For the prover. What an expression gives on a left value and on the answers of a query on the
-- rest of a word.
use Rattle.std.specs.Prelude.{◌≡◌, ℕ, List, Option, Some, None, take}
use Rattle.value_ops.specs.declared.value.Value.{Value}
use Rattle.expressions.specs.Expressions.{Expression}
use Rattle.rate_expr.specs.Words.{Word}
use Rattle.query_model.specs.Denotation.{Den}
use Rattle.query_model.specs.Queries.{Qre}
use Rattle.slow_eval.specs.Answers.{AreAnswers}
use Rattle.slow_eval.specs.Rows.{IsJoined, IsTypedOnBoth}

-- the expression is well typed on the left value and any value of the query on a front of the rest
abbrev pub IsTypedWithRest : Qre → Word → Expression → Option Value → Type 0
IsTypedWithRest query rest expression left = (place : ℕ) (x y : Value) → left ≡ Some x
    → Den query (take place rest) y → IsTypedOnBoth expression x y

-- from the place `from` on, the row has what the left value and the answers on the rest give;
-- without a left value it is as it was
abbrev pub IsJoinedWithRest : Qre → Word → Expression → Option Value → ℕ → List (Option Value)
    → List (Option Value) → Type 0
IsJoinedWithRest query rest expression None from old new = new ≡ old
IsJoinedWithRest query rest expression (Some left) from old new =
    (rights : List (Option Value)) × AreAnswers query rest rights
    × IsJoined expression left rights from old new
