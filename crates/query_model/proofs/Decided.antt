-- Whether a query has a value on a word is decided.
use Rattle.std.proofs.Common.{List, [], subst, ◌⊎◌, inl, inr}
use Rattle.value_ops.specs.declared.value.Value.{Value}
use Rattle.item_schema.specs.declared.column.Column.{Column}
use Rattle.rate_expr.specs.Words.{Word, IsWordOf}
use Rattle.query_model.specs.Denotation.{Den, Outputs}
use Rattle.query_model.specs.Queries.{Qre, atom, eps, choice, split, iter, combine, apply, compose}
use Rattle.query_model.specs.Queries.{collect}
use Rattle.query_model.specs.QueryTypes.{derived_columns, type_of}
use Rattle.query_model.specs.Rules.{Standing, free, bound, IsClear}
use Rattle.query_model.proofs.Defined.{decided, in_den, outputs_some}
use Rattle.query_model.proofs.Typed.{den_typed, outputs_word}
use Rattle.query_model.proofs.Unique.{one_value, outputs_one}

-- there is a value, or none
abbrev pub ValueOrNone : Qre → Word → Type 0
ValueOrNone q word = ((value : Value) × Den q word value) ⊎ ((value : Value) → Den q word value → ⊥)

-- where the query is bound, since it is decided whether the word is in its rate
bound_or_none : (columns : List Column) (q : Qre) (word : Word) → IsClear bound columns q
    → IsWordOf columns word → ValueOrNone q word
bound_or_none columns q word clear is =
    decided columns q word clear is (in_den columns q word clear is)

module _ (columns : List Column) (f g : Qre) (word out : Word)
    (clear : IsClear free columns (compose f g)) (is : IsWordOf columns word)
    (outputs : Outputs (Den f) [] word out) where
  -- a composition has the value of the right query on what comes out of the left one
  composed : (x : Value) → Den f word x → ValueOrNone g out → ValueOrNone (compose f g) word
  composed x den (inl (v, outer)) = inl (v, (x, out, den, outputs, outer))
  composed x den (inr none) =
      inr (λ v (x', out', den', outputs', outer).
      none v (subst (λ o. Den g o v) (outputs_one columns (Den f)
      (λ part a b part_is. one_value free columns f part a b clear.0 part_is) [] word out' out tt is
      outputs' outputs) outer))

-- at any standing
pub value_or_none : (standing : Standing) (columns : List Column) (q : Qre) (word : Word)
    → IsClear standing columns q → IsWordOf columns word → ValueOrNone q word
value_or_none bound columns q word clear is = bound_or_none columns q word clear is
value_or_none free columns (compose f g) word clear is =
    let out = outputs_some columns (Den f)
    (λ part part_is. value_or_none free columns f part clear.0 part_is) [] word tt is in
    let out_is = outputs_word columns (type_of columns f) (Den f)
    (λ part last part_is den. den_typed free columns f part last clear.0 part_is den) [] word
    out.0 tt is out.1 in
    elim (value_or_none free columns f word clear.0 is) [
      | inl (x, den) ↦ composed columns f g word out.0 clear is out.1 x den
          (value_or_none free (derived_columns (type_of columns f)) g out.0 clear.1 out_is)
      | inr none ↦ inr (λ v (x, o, den, outputs, outer). none x den)
    ]
value_or_none free columns (atom pred expression) word clear is =
    bound_or_none columns (atom pred expression) word clear is
value_or_none free columns (eps number) word clear is =
    bound_or_none columns (eps number) word clear is
value_or_none free columns (choice f g) word clear is =
    bound_or_none columns (choice f g) word clear is
value_or_none free columns (split f g expression) word clear is =
    bound_or_none columns (split f g expression) word clear is
value_or_none free columns (iter f number expression) word clear is =
    bound_or_none columns (iter f number expression) word clear is
value_or_none free columns (combine f g expression) word clear is =
    bound_or_none columns (combine f g expression) word clear is
value_or_none free columns (apply f expression) word clear is =
    bound_or_none columns (apply f expression) word clear is
value_or_none free columns (collect chosen sync rate f) word clear is =
    bound_or_none columns (collect chosen sync rate f) word clear is
