-- The types of answers, and that expressions are well typed on them.
use Rattle.std.proofs.Common.{◌≡◌, ℕ, List, [], ◌∷◌, Option, Some, None, take, get_or, sym, subst}
use Rattle.std.specs.Prelude.{MatchOption, slice_get}
use Rattle.value_ops.specs.declared.field.Field.{Field}
use Rattle.value_ops.specs.declared.value.Value.{Value}
use Rattle.value_ops.specs.declared.value.ValueType.{ValueType}
use Rattle.expressions.specs.Evaluation.{given}
use Rattle.expressions.specs.Expressions.{Expression}
use Rattle.value_ops.specs.Types.{IsValueOf}
use Rattle.expressions.specs.Typing.{HasType, types_of}
use Rattle.item_schema.specs.declared.column.Column.{Column}
use Rattle.item_schema.specs.Items.{IsItemOf}
use Rattle.predicates.specs.Predicates.{Predicate}
use Rattle.rate_expr.specs.Words.{Word, IsWordOf}
use Rattle.query_model.specs.Denotation.{Den}
use Rattle.query_model.specs.Following.{IsAnswer}
use Rattle.query_model.specs.Queries.{Qre, atom, combine, apply}
use Rattle.query_model.specs.QueryTypes.{of_columns, of_one, of_two, type_of, type_of_expression}
use Rattle.query_model.specs.Rules.{Standing, IsClear}
use Rattle.query_model.proofs.ItemFields.{atom_types, one_type, two_types}
use Rattle.query_model.proofs.Typed.{den_typed}
use Rattle.slow_eval.specs.Answers.{AreAnswers, CanBeRead}
use Rattle.slow_eval.specs.Rows.{IsTypedOnBoth, IsTypedOnOne}
use Rattle.slow_eval.proofs.Cutting.{front_word}
use Rattle.slow_eval.proofs.Reading.{of_inner, of_left, of_right, value_at}

-- a value on a front has the type of the query
pub typed_at : (q : Qre) (word : Word) (place : ℕ) (v : Value) (can : CanBeRead q word)
    → Den q (take place word) v → IsValueOf (type_of can.columns q) v
typed_at q word place v can den =
    den_typed can.standing can.columns q (take place word) v can.clear
    (front_word can.columns word place can.is_word) den

-- an answer that is there has the type of the query
pub typed_answer : (standing : Standing) (columns : List Column) (q : Qre) (word : Word)
    (answer : Option Value) → IsClear standing columns q → IsWordOf columns word
    → IsAnswer q word answer → MatchOption answer (Unit {0}) (IsValueOf (type_of columns q))
typed_answer standing columns q word None clear is answers = tt
typed_answer standing columns q word (Some v) clear is answers =
    den_typed standing columns q word v clear is answers

-- expressions are well typed on values of the types that they are for
pub typed_on_one : (type result : ValueType) (e : Expression) (x : Value) → IsValueOf type x
    → HasType (of_one type) e result → IsTypedOnOne e x
typed_on_one type result e x is typed =
    (result, subst (λ t. HasType t e result) (sym (one_type type x is)) typed)

pub typed_on_both : (type other result : ValueType) (e : Expression) (x y : Value)
    → IsValueOf type x → IsValueOf other y → HasType (of_two type other) e result
    → IsTypedOnBoth e x y
typed_on_both type other result e x y is is' typed =
    (result, subst (λ t. HasType t e result) (sym (two_types type other x y is is')) typed)

-- on the answers of a combine and of an apply
pub both_typed : (f g : Qre) (e : Expression) (word : Word) (lefts rights : List (Option Value))
    → CanBeRead (combine f g e) word → AreAnswers f word lefts → AreAnswers g word rights
    → (place : ℕ) (x y : Value) → get_or lefts place None ≡ Some x
    → get_or rights place None ≡ Some y → IsTypedOnBoth e x y
both_typed f g e word lefts rights can left right place x y there there' =
    typed_on_both (type_of can.columns f) (type_of can.columns g) _ e x y
    (typed_at f word place x (of_left f g e word can) (value_at f word lefts place x left there).1)
    (typed_at g word place y (of_right f g e word can)
    (value_at g word rights place y right there').1)
    can.clear.2

pub one_typed : (f : Qre) (e : Expression) (word : Word) (inner : List (Option Value))
    → CanBeRead (apply f e) word → AreAnswers f word inner
    → (place : ℕ) (x : Value) → get_or inner place None ≡ Some x → IsTypedOnOne e x
one_typed f e word inner can answers place x there =
    typed_on_one (type_of can.columns f) _ e x
    (typed_at f word place x (of_inner f e word can)
    (value_at f word inner place x answers there).1) can.clear.1

-- the expression of an atom is well typed on the first item
pub atom_typed : (pred : Predicate) (e : Expression) (item : List Field) (word : Word)
    → CanBeRead (atom pred e) word → Some item ≡ slice_get word 0
    → (type : ValueType) × HasType (types_of (given item None None)) e type
atom_typed pred e item [] can first = let none : Some item ≡ None = first in cc
atom_typed pred e item (other ∷ word) can first =
    let same : item ≡ other = cc in (
      type_of_expression (of_columns can.columns) e,
      subst (λ t. HasType t e (type_of_expression (of_columns can.columns) e))
          (sym (atom_types can.columns item
          (subst (IsItemOf can.columns) (sym same) can.is_word.0))) can.clear.1,
    )
