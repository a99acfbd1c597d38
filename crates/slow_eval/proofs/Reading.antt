-- What can be read of a query's operands, and what answers say.
use Rattle.std.proofs.Common.{◌≡◌, ◌<◌, ◌≤◌, ℕ, ◌+◌, List, Option, Some, None, length, take, drop}
use Rattle.std.proofs.Common.{get_or, refl, subst, arith, inl, inr}
use Rattle.std.proofs.lemmas.Bool.{cases_lt}
use Rattle.std.proofs.lemmas.List.{get_or_past}
use Rattle.std.specs.Prelude.{ℤ}
use Rattle.value_ops.specs.declared.value.Value.{Value}
use Rattle.expressions.specs.Expressions.{Expression}
use Rattle.rate_expr.specs.Words.{Word}
use Rattle.query_model.specs.Denotation.{Den}
use Rattle.query_model.specs.Following.{IsAnswer}
use Rattle.query_model.specs.Queries.{Qre, split, iter, combine, apply}
use Rattle.query_model.specs.Rules.{bound}
use Rattle.query_model.proofs.Unique.{one_value}
use Rattle.slow_eval.specs.Answers.{AreAnswers, CanBeRead}
use Rattle.slow_eval.proofs.Cutting.{front_word, rest_word}
use Rattle.slow_eval.proofs.Filling.{some_not_none}

-- the operands of a combine and of an apply, on the same word
abbrev pub of_left : (f g : Qre) (e : Expression) (word : Word) → CanBeRead (combine f g e) word
    → CanBeRead f word
of_left f g e word can = record {
  standing = bound;
  columns = can.columns;
  clear = can.clear.0;
  is_word = can.is_word;
  positions = can.positions.0;
}

abbrev pub of_right : (f g : Qre) (e : Expression) (word : Word) → CanBeRead (combine f g e) word
    → CanBeRead g word
of_right f g e word can = record {
  standing = bound;
  columns = can.columns;
  clear = can.clear.1;
  is_word = can.is_word;
  positions = can.positions.1;
}

abbrev pub of_inner : (f : Qre) (e : Expression) (word : Word) → CanBeRead (apply f e) word
    → CanBeRead f word
of_inner f e word can = record {
  standing = bound;
  columns = can.columns;
  clear = can.clear.0;
  is_word = can.is_word;
  positions = can.positions;
}

-- those of a split, the second after a front
abbrev pub of_front : (f g : Qre) (e : Expression) (word : Word) → CanBeRead (split f g e) word
    → CanBeRead f word
of_front f g e word can = record {
  standing = bound;
  columns = can.columns;
  clear = can.clear.0;
  is_word = can.is_word;
  positions = can.positions.0;
}

abbrev pub of_rest : (f g : Qre) (e : Expression) (word : Word) (at : ℕ)
    → CanBeRead (split f g e) word → CanBeRead g (drop at word)
of_rest f g e word at can = record {
  standing = bound;
  columns = can.columns;
  clear = can.clear.1;
  is_word = rest_word can.columns word at can.is_word;
  positions = can.positions.1;
}

-- that of an iter, after a front
abbrev pub of_piece : (f : Qre) (number : ℤ) (e : Expression) (word : Word) (at : ℕ)
    → CanBeRead (iter f number e) word → CanBeRead f (drop at word)
of_piece f number e word at can = record {
  standing = bound;
  columns = can.columns;
  clear = can.clear.0;
  is_word = rest_word can.columns word at can.is_word;
  positions = can.positions;
}

-- a value stands inside of its row
pub place_inside : (row : List (Option Value)) (place : ℕ) (v : Value)
    → get_or row place None ≡ Some v → place < length row
place_inside row place v there =
    elim (cases_lt place (length row)) [
      | inl below ↦ below
      | inr above ↦ absurd (some_not_none v _ there (get_or_past row place None above))
    ]

-- an answer that is there is the value, and where there is none there is no value
pub is_value : (q : Qre) (word : Word) (answer : Option Value) (v : Value) → IsAnswer q word answer
    → answer ≡ Some v → Den q word v
is_value q word answer v is there = subst (IsAnswer q word) there is

pub is_none : (q : Qre) (word : Word) (answer : Option Value)
    → IsAnswer q word answer → answer ≡ None → (v : Value) → Den q word v → ⊥
is_none q word answer is there = subst (IsAnswer q word) there is

pub is_answer : (q : Qre) (word : Word) (answer : Option Value)
    → ((v : Value) → answer ≡ Some v → Den q word v)
    → (answer ≡ None → (v : Value) → Den q word v → ⊥) → IsAnswer q word answer
is_answer q word None some none = none refl
is_answer q word (Some v) some none = some v refl

-- the value on a front
pub value_at : (q : Qre) (word : Word) (row : List (Option Value)) (place : ℕ) (v : Value)
    → AreAnswers q word row → get_or row place None ≡ Some v
    → (place ≤ length word) × Den q (take place word) v
value_at q word row place v answers there =
    let below : place < length row = place_inside row place v there in
    let count : length row ≡ length word + 1 = answers.count in
    let inside : place ≤ length word = omega arith in
    (inside, is_value q (take place word) _ v (answers.each place inside) there)

-- it is the only one
pub one_at : (q : Qre) (word : Word) (place : ℕ) (v other : Value) → CanBeRead q word
    → Den q (take place word) v → Den q (take place word) other → other ≡ v
one_at q word place v other can den den' =
    one_value can.standing can.columns q (take place word) other v can.clear
    (front_word can.columns word place can.is_word) den' den
