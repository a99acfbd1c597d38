-- The row of an iter.
use Rattle.std.proofs.Common.{◌≡◌, ◌<◌, ◌≤◌, ℕ, zero, suc, ◌+◌, ◌++◌, ◌∙◌, List, [], ◌∷◌, Option}
use Rattle.std.proofs.Common.{Some, None, length, take, drop, get_or, refl, sym, subst, ap, arith}
use Rattle.std.proofs.Common.{take-add, length-take-le, inl, inr}
use Rattle.std.specs.Prelude.{ℤ}
use Rattle.value_ops.specs.declared.scalar.Scalar.TheVariants.{Number}
use Rattle.value_ops.specs.declared.value.Value.{Value}
use Rattle.value_ops.specs.declared.value.Value.TheVariants as value
use Rattle.value_ops.specs.declared.value.ValueType.TheVariants as type
use Rattle.expressions.specs.Expressions.{Expression}
use Rattle.item_schema.specs.declared.column.Column.{Column}
use Rattle.rate_expr.specs.Language.{In}
use Rattle.rate_expr.specs.Rates as rate
use Rattle.rate_expr.specs.Readings.{HasOneFactoring}
use Rattle.rate_expr.specs.Words.{Word, IsWordOf, join}
use Rattle.rate_expr.proofs.Wording.{word_parts}
use Rattle.query_model.specs.Denotation.{Den, Folds, on_both}
use Rattle.query_model.specs.Following.{IsAnswer}
use Rattle.query_model.specs.Queries.{Qre, iter}
use Rattle.query_model.specs.QueryTypes.{type_of}
use Rattle.query_model.specs.Rates.{rate_of}
use Rattle.query_model.specs.Rules.{bound}
use Rattle.query_model.proofs.InRates.{den_in}
use Rattle.slow_eval.specs.Answers.{AreAnswers, CanBeRead}
use Rattle.slow_eval.specs.Rests.{IsJoinedWithRest, IsTypedWithRest}
use Rattle.slow_eval.specs.Rows.{IsJoined}
use Rattle.slow_eval.proofs.Cutting.{IsCut, cut, front_word}
use Rattle.slow_eval.proofs.Filling.{IsFilled, joined, put_or_same, skipped, some_not_none}
use Rattle.slow_eval.proofs.Folding.{fold_less, fold_more, join_more, last_piece}
use Rattle.slow_eval.proofs.Reading.{is_answer, is_none, of_piece, one_at}
use Rattle.slow_eval.proofs.WellTyped.{typed_at, typed_on_both}
use Rattle.slow_eval.proofs.Splitting.{answers_after}

-- The values on all pieces but the last, on the last, and on the whole, where the
-- empty front has one
pub record IsIterated (f : Qre) (number : ℤ) (e : Expression) (word : Word) (at : ℕ)
    (answers : List (Option Value)) : Type 0 where
  pub filled : IsFilled (Den (iter f number e)) (Den f) (Den (iter f number e)) e word at answers
  pub begins : get_or answers 0 None ≡ None → ⊥

-- a list with an element is not empty
nothing_more : (pieces : List Word) → [] ∷ pieces ≡ [] → ⊥
nothing_more pieces same = cc

-- no piece is empty
some_item : (columns : List Column) (r : rate.Regex) (piece : Word)
    → HasOneFactoring columns r → In r piece → 0 < length piece
some_item columns r [] one is =
    let same : [] ∷ [] ≡ [] = one ([] ∷ []) [] tt (is, tt) tt refl in
    absurd (nothing_more [] same)
some_item columns r (item ∷ piece) one is = omega arith

no_last : (f : Qre) (number : ℤ) (e : Expression) (word : Word) (at : ℕ) (row : List (Option Value))
    → CanBeRead (iter f number e) word → IsIterated f number e word at row
    → (place : ℕ) → place ≤ at → place ≤ length word → get_or row place None ≡ None
    → (front : List Word) (last : Word) (v : Value) → take place word ≡ join front ++ last
    → Folds (Den f) e (value.Scalar (Number number)) (front ++ last ∷ []) v → ⊥
no_last f number e word at row can so_far place tried inside none front last v whole folds =
    let (x, y, before, den, gives) = fold_less (Den f) e front last
    (value.Scalar (Number number)) v folds in
    let c : IsCut word place (join front) last = cut word place (join front) last inside whole in
    let parts = word_parts can.columns (join front) last
    (subst (IsWordOf can.columns) whole (front_word can.columns word place can.is_word)) in
    let some : 0 < length last = some_item can.columns (rate_of f) last can.clear.3
    (den_in bound can.columns f last y can.clear.0 parts.1 den) in
    let count : length (join front) + length last ≡ place = c.count in
    so_far.filled.full (length (join front)) (omega arith) (length last) x y v (omega arith)
    (front, sym c.front, before) (subst (λ u. Den f u y) c.rest den) gives
    (subst (λ p. get_or row p None ≡ None) (sym c.count) none)

no_fold : (f : Qre) (number : ℤ) (e : Expression) (word : Word) (at : ℕ) (row : List (Option Value))
    → CanBeRead (iter f number e) word → IsIterated f number e word at row
    → (place : ℕ) → place ≤ at → place ≤ length word → get_or row place None ≡ None
    → (pieces : List Word) (v : Value) → take place word ≡ join pieces
    → Folds (Den f) e (value.Scalar (Number number)) pieces v → ⊥
no_fold f number e word at row can so_far place tried inside none pieces v whole folds =
    elim (last_piece pieces) [
      | inl empty ↦
          let long : length (take place word) ≡ place = length-take-le place word inside in
          let short : length (take place word) ≡ 0 =
          ap length whole ∙ ap (λ ps. length (join ps)) empty in
          let first : place ≡ 0 = omega arith in
          so_far.begins (subst (λ p. get_or row p None ≡ None) first none)
      | inr (front, last, all) ↦
          no_last f number e word at row can so_far place tried inside none front last v
          (whole ∙ ap join all ∙ join_more front last)
          (subst (λ ps. Folds (Den f) e (value.Scalar (Number number)) ps v) all folds)
    ]

-- a front that is no longer than those that were tried has its answer
pub iter_answer : (f : Qre) (number : ℤ) (e : Expression) (word : Word) (at : ℕ)
    (row : List (Option Value)) → CanBeRead (iter f number e) word
    → IsIterated f number e word at row → (place : ℕ) → place ≤ at → place ≤ length word
    → IsAnswer (iter f number e) (take place word) (get_or row place None)
iter_answer f number e word at row can so_far place tried inside =
    is_answer (iter f number e) (take place word) (get_or row place None)
    (λ v there. so_far.filled.sound place v inside there)
    (λ none v (pieces, whole, folds).
    no_fold f number e word at row can so_far place tried inside none pieces v whole folds)

-- one more piece after a front that has a value
one_piece_more : (f : Qre) (number : ℤ) (e : Expression) (word : Word) (at m : ℕ) (x y v : Value)
    → Den (iter f number e) (take at word) x → Den f (take m (drop at word)) y
    → on_both e x y ≡ Some v → Den (iter f number e) (take (at + m) word) v
one_piece_more f number e word at m x y v (pieces, whole, folds) den gives = (
  pieces ++ take m (drop at word) ∷ [],
  take-add at m word ∙ ap (λ u. u ++ take m (drop at word)) whole
      ∙ sym (join_more pieces (take m (drop at word))),
  fold_more (Den f) e pieces (take m (drop at word)) (value.Scalar (Number number)) x y v
      folds den gives,
)

-- the expression is well typed on the value so far and those after it
pub iter_typed : (f : Qre) (number : ℤ) (e : Expression) (word : Word) (at : ℕ)
    (row : List (Option Value)) → CanBeRead (iter f number e) word
    → IsIterated f number e word at row → at ≤ length word
    → IsTypedWithRest f (drop at word) e (get_or row at None)
iter_typed f number e word at row can so_far inside = λ place x y there den.
    typed_on_both type.Number (type_of can.columns f) type.Number e x y
    (typed_at (iter f number e) word at x can (so_far.filled.sound at x inside there))
    (typed_at f (drop at word) place y (of_piece f number e word at can) den) can.clear.2

-- the first place keeps an answer
begins_still : (e : Expression) (x : Value) (right : List (Option Value)) (from : ℕ)
    (old new : List (Option Value)) (n : ℕ) → IsJoined e x right from old new
    → (get_or old 0 None ≡ None → ⊥) → length right ≡ n + 1 → get_or new 0 None ≡ None → ⊥
begins_still e x right zero old new n is begins some none =
    let inside : 0 < length right = omega arith in
    elim (put_or_same e x _ _ _ (is.after 0 inside)) [
      | inl (y, there, (v, given, gives)) ↦ some_not_none v _ given none
      | inr (free, same) ↦ begins (sym same ∙ none)
    ]
begins_still e x right (suc from) old new n is begins some none =
    begins (sym (is.before 0 (omega arith)) ∙ none)

-- a front with a value, and all pieces after it
iter_joined : (f : Qre) (number : ℤ) (e : Expression) (word : Word) (at : ℕ)
    (row new : List (Option Value)) (x : Value) → CanBeRead (iter f number e) word
    → IsIterated f number e word at row → at ≤ length word
    → get_or row at None ≡ Some x → IsJoinedWithRest f (drop at word) e (Some x) at row new
    → IsIterated f number e word (at + 1) new
iter_joined f number e word at row new x can so_far inside there (pieces, answers, is_joined) =
    let den = so_far.filled.sound at x inside there in
    record {
      filled = joined (Den (iter f number e)) (Den f) (Den (iter f number e)) e word at row new
          pieces x so_far.filled is_joined (answers_after f word at pieces inside answers) inside
          (λ other den'. one_at (iter f number e) word at x other can den den')
          (λ m y v within right gives. one_piece_more f number e word at m x y v den right gives);
      begins = begins_still e x pieces at row new _ is_joined so_far.begins answers.count;
    }

-- a front without a value
iter_skipped : (f : Qre) (number : ℤ) (e : Expression) (word : Word) (at : ℕ)
    (row : List (Option Value)) → CanBeRead (iter f number e) word
    → IsIterated f number e word at row → at ≤ length word
    → get_or row at None ≡ None → IsIterated f number e word (at + 1) row
iter_skipped f number e word at row can so_far inside there = record {
  filled =
      skipped (Den (iter f number e)) (Den f) (Den (iter f number e)) e word at row so_far.filled
      (is_none (iter f number e) (take at word) _
      (iter_answer f number e word at row can so_far at (omega arith) inside) there);
  begins = so_far.begins;
}

-- one front more
pub iter_more : (f : Qre) (number : ℤ) (e : Expression) (word : Word) (at : ℕ)
    (row new : List (Option Value)) (so_far : Option Value) → CanBeRead (iter f number e) word
    → IsIterated f number e word at row → at ≤ length word
    → get_or row at None ≡ so_far → IsJoinedWithRest f (drop at word) e so_far at row new
    → IsIterated f number e word (at + 1) new
iter_more f number e word at row new None can is inside there same =
    subst (IsIterated f number e word (at + 1)) (sym same)
    (iter_skipped f number e word at row can is inside there)
iter_more f number e word at row new (Some x) can is inside there joined =
    iter_joined f number e word at row new x can is inside there joined

-- all fronts have been tried
pub iter_ended : (f : Qre) (number : ℤ) (e : Expression) (word : Word) (at : ℕ)
    (row : List (Option Value)) → CanBeRead (iter f number e) word
    → IsIterated f number e word at row → length word ≤ at → AreAnswers (iter f number e) word row
iter_ended f number e word at row can so_far all = record {
  count = so_far.filled.count;
  each = λ place inside. iter_answer f number e word at row can so_far place (omega arith) inside;
}
