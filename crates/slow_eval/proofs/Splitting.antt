-- The row of a split.
use Rattle.std.proofs.Common.{◌≡◌, ◌<◌, ◌≤◌, ℕ, ◌+◌, ◌-◌, List, Option, Some, None, length, take}
use Rattle.std.proofs.Common.{drop, get_or, sym, subst, arith, take-add, length-drop}
use Rattle.value_ops.specs.declared.value.Value.{Value}
use Rattle.expressions.specs.Expressions.{Expression}
use Rattle.rate_expr.specs.Words.{Word}
use Rattle.query_model.specs.Denotation.{Den}
use Rattle.query_model.specs.Queries.{Qre, split}
use Rattle.query_model.specs.QueryTypes.{type_of}
use Rattle.slow_eval.specs.Answers.{AreAnswers, CanBeRead}
use Rattle.slow_eval.specs.Rests.{IsJoinedWithRest, IsTypedWithRest}
use Rattle.slow_eval.proofs.Cutting.{cut}
use Rattle.slow_eval.proofs.Filling.{AreAfter, IsFilled, joined, skipped}
use Rattle.slow_eval.proofs.Reading.{is_answer, is_none, is_value, of_front, of_rest, one_at}
use Rattle.slow_eval.proofs.Reading.{value_at}
use Rattle.slow_eval.proofs.WellTyped.{typed_at, typed_on_both}

-- the values on the left parts and the right ones, and on the whole
abbrev pub IsSplit : Qre → Qre → Expression → Word → ℕ → List (Option Value) → Type 0
IsSplit f g e word at row = IsFilled (Den f) (Den g) (Den (split f g e)) e word at row

-- the answers of a query after a front
pub answers_after : (g : Qre) (word : Word) (at : ℕ) (right : List (Option Value))
    → at ≤ length word → AreAnswers g (drop at word) right → AreAfter (Den g) word at right
answers_after g word at right inside answers =
    let rest : length (drop at word) ≡ length word - at = length-drop at word in
    let count : length right ≡ length (drop at word) + 1 = answers.count in
    record {
      count = omega arith;
      some = λ m y within there. is_value g (take m (drop at word)) _ y
          (answers.each m (omega arith)) there;
      none = λ m y within there den. is_none g (take m (drop at word)) _
          (answers.each m (omega arith)) there y den;
    }

-- the expression is well typed on a left value and those after it
pub split_typed : (f g : Qre) (e : Expression) (word : Word) (at : ℕ) (lefts : List (Option Value))
    → CanBeRead (split f g e) word → AreAnswers f word lefts
    → IsTypedWithRest g (drop at word) e (get_or lefts at None)
split_typed f g e word at lefts can left = λ place x y there den.
    typed_on_both (type_of can.columns f) (type_of can.columns g) _ e x y
    (typed_at f word at x (of_front f g e word can) (value_at f word lefts at x left there).1)
    (typed_at g (drop at word) place y (of_rest f g e word at can) den) can.clear.2

-- a left value, and all right ones after it
split_joined : (f g : Qre) (e : Expression) (word : Word) (at : ℕ)
    (lefts row new : List (Option Value)) (x : Value) → CanBeRead (split f g e) word
    → AreAnswers f word lefts → IsSplit f g e word at row
    → get_or lefts at None ≡ Some x → IsJoinedWithRest g (drop at word) e (Some x) at row new
    → IsSplit f g e word (at + 1) new
split_joined f g e word at lefts row new x can left filled there (rights, right, is_joined) =
    let found = value_at f word lefts at x left there in
    joined (Den f) (Den g) (Den (split f g e)) e word at row new rights x filled is_joined
    (answers_after g word at rights found.0 right) found.0
    (λ other den. one_at f word at x other (of_front f g e word can) found.1 den)
    (λ m y v inside den gives.
    (take at word, take m (drop at word), x, y, take-add at m word, found.1, den, gives))

-- no left value
split_skipped : (f g : Qre) (e : Expression) (word : Word) (at : ℕ)
    (lefts row : List (Option Value)) → AreAnswers f word lefts → IsSplit f g e word at row
    → at < length lefts → get_or lefts at None ≡ None → IsSplit f g e word (at + 1) row
split_skipped f g e word at lefts row left filled below there =
    let count : length lefts ≡ length word + 1 = left.count in
    skipped (Den f) (Den g) (Den (split f g e)) e word at row filled
    (is_none f (take at word) _ (left.each at (omega arith)) there)

-- one front more
pub split_more : (f g : Qre) (e : Expression) (word : Word) (at : ℕ)
    (lefts row new : List (Option Value)) (left : Option Value) → CanBeRead (split f g e) word
    → AreAnswers f word lefts → IsSplit f g e word at row
    → at < length lefts → get_or lefts at None ≡ left
    → IsJoinedWithRest g (drop at word) e left at row new → IsSplit f g e word (at + 1) new
split_more f g e word at lefts row new None can left filled below there same =
    subst (IsSplit f g e word (at + 1)) (sym same)
    (split_skipped f g e word at lefts row left filled below there)
split_more f g e word at lefts row new (Some x) can left filled below there joined =
    split_joined f g e word at lefts row new x can left filled there joined

-- all fronts have been tried
pub split_ended : (f g : Qre) (e : Expression) (word : Word) (at : ℕ) (row : List (Option Value))
    → IsSplit f g e word at row → length word < at → AreAnswers (split f g e) word row
split_ended f g e word at row filled all = record {
  count = filled.count;
  each = λ place inside. is_answer (split f g e) (take place word) (get_or row place None)
      (λ v there. filled.sound place v inside there)
      (λ none v (first, second, x, y, whole, left, right, gives).
      let c = cut word place first second inside whole in
      let count : length first + length second ≡ place = c.count in
      filled.full (length first) (omega arith) (length second) x y v (omega arith)
      (subst (λ u. Den f u x) c.front left) (subst (λ u. Den g u y) c.rest right) gives
      (subst (λ p. get_or row p None ≡ None) (sym c.count) none));
}
