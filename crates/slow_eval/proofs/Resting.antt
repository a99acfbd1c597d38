-- What a value and the answers on the rest of a word give.
use Rattle.std.proofs.Common.{◌≡◌, ◌<◌, ◌≤◌, ◌+◌, ◌-◌, ◌∙◌, ℕ, List, Option, Some, None, length}
use Rattle.std.proofs.Common.{take, drop, get_or, refl, subst, ap, arith, length-drop}
use Rattle.value_ops.specs.declared.value.Value.{Value}
use Rattle.expressions.specs.Expressions.{Expression}
use Rattle.rate_expr.specs.Words.{Word}
use Rattle.query_model.specs.Queries.{Qre}
use Rattle.slow_eval.specs.Answers.{AreAnswers}
use Rattle.slow_eval.specs.Rests.{IsJoinedWithRest, IsTypedWithRest}
use Rattle.slow_eval.specs.Rows.{IsTypedOnBoth}
use Rattle.slow_eval.proofs.Cutting.{rest_is}
use Rattle.slow_eval.proofs.Reading.{value_at}

-- the expression is well typed on the answers
pub rest_typed : (query : Qre) (rest : Word) (expression : Expression) (left : Value)
    (rights : List (Option Value)) → IsTypedWithRest query rest expression (Some left)
    → AreAnswers query rest rights → (place : ℕ) (right : Value)
    → get_or rights place None ≡ Some right → IsTypedOnBoth expression left right
rest_typed query rest expression left rights typed answers place right there =
    typed place left right refl (value_at query rest rights place right answers there).1

-- the rest ends where the row does
pub rest_fits : (word : Word) (at : ℕ) (row : List (Option Value)) → length row ≡ length word + 1
    → at ≤ length word → at + length (take (length word - at) (drop at word)) < length row
rest_fits word at row count inside =
    let long : length (take (length word - at) (drop at word)) ≡ length word - at =
    ap length (rest_is word at) ∙ length-drop at word in
    omega arith

-- the row keeps its length
pub joined_count : (query : Qre) (rest : Word) (expression : Expression)
    (left : Option Value) (from : ℕ) (old new : List (Option Value))
    → IsJoinedWithRest query rest expression left from old new → length new ≡ length old
joined_count query rest expression None from old new same = ap length same
joined_count query rest expression (Some left) from old new (rights, answers, joined) = joined.count

-- the same rows, by other names
pub joined_items : (query : Qre) (rest rest' : Word) (expression : Expression)
    (left left' : Option Value) (from : ℕ) (old old' new new' : List (Option Value))
    → IsJoinedWithRest query rest expression left from old new → rest ≡ rest'
    → left ≡ left' → old ≡ old' → new ≡ new'
    → IsJoinedWithRest query rest' expression left' from old' new'
joined_items query rest rest' expression left left' from old old' new new' joined rests
    lefts olds news =
    subst (λ r. IsJoinedWithRest query r expression left' from old' new') rests
    (subst (λ l. IsJoinedWithRest query rest expression l from old' new') lefts
    (subst (λ before. IsJoinedWithRest query rest expression left from before new') olds
    (subst (IsJoinedWithRest query rest expression left from old) news joined)))
