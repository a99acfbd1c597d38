-- A query has values on words of its rate alone.
use Rattle.std.proofs.Common.{List, [], ◌∷◌, subst, inl, inr}
use Rattle.std.specs.List.{AllByRecursion}
use Rattle.expressions.specs.Expressions.{Expression}
use Rattle.value_ops.specs.declared.value.Value.{Value}
use Rattle.item_schema.specs.declared.column.Column.{Column}
use Rattle.rate_expr.specs.Language.{In}
use Rattle.rate_expr.specs.Words.{Word, IsWordOf, join}
use Rattle.rate_expr.proofs.Wording.{word_parts}
use Rattle.query_model.specs.Denotation.{Den, Folds}
use Rattle.query_model.specs.Queries.{Qre, atom, eps, choice, split, iter, combine, apply, compose}
use Rattle.query_model.specs.Queries.{collect}
use Rattle.query_model.specs.Rates.{rate_of}
use Rattle.query_model.specs.Rules.{Standing, bound, IsClear}

-- what is said of all words of a stream on which there is a value
abbrev pub OnValues : List Column → (Word → Value → Type 0) → (Word → Value → Type 0) → Type 0
OnValues columns D P =
    (word : Word) (value : Value) → IsWordOf columns word → D word value → P word value

-- the pieces of a fold are such words
pub pieces_in : (columns : List Column) (D : Word → Value → Type 0) (A : Word → Type 0)
    (expression : Expression) → OnValues columns D (λ word value. A word)
    → (pieces : List Word) (so_far value : Value) → IsWordOf columns (join pieces)
    → Folds D expression so_far pieces value → AllByRecursion A pieces
pieces_in columns D A expression each [] so_far value is folds = tt
pieces_in columns D A expression each (piece ∷ pieces) so_far value is folds =
    let parts = word_parts columns piece (join pieces) is in (
      each piece folds.0 parts.0 folds.2,
      pieces_in columns D A expression each pieces folds.1 value parts.1 folds.4,
    )

-- a word on which there is a value is one of the rate
pub den_in : (standing : Standing) (columns : List Column) (q : Qre) (word : Word) (value : Value)
    → IsClear standing columns q → IsWordOf columns word → Den q word value → In (rate_of q) word
den_in standing columns (atom pred expression) word value clear is den = (den.0, den.1, den.2)
den_in standing columns (eps number) word value clear is den = den.0
den_in standing columns (choice f g) word value clear is den =
    elim den [
      | inl left ↦ inl (den_in bound columns f word value clear.0 is left)
      | inr right ↦ inr (den_in bound columns g word value clear.1 is right)
    ]
den_in standing columns (split f g expression) word value clear is
    (first, second, x, y, whole, left, right, gives) =
    let parts = word_parts columns first second (subst (IsWordOf columns) whole is) in (
      first,
      second,
      whole,
      den_in bound columns f first x clear.0 parts.0 left,
      den_in bound columns g second y clear.1 parts.1 right,
    )
den_in standing columns (iter f number expression) word value clear is (pieces, whole, folds) = (
  pieces,
  whole,
  pieces_in columns (Den f) (In (rate_of f)) expression
      (λ piece last piece_is den. den_in bound columns f piece last clear.0 piece_is den) pieces _
      value (subst (IsWordOf columns) whole is) folds,
)
den_in standing columns (combine f g expression) word value clear is (x, y, left, right, gives) =
    den_in bound columns f word x clear.0 is left
den_in standing columns (apply f expression) word value clear is (x, inner, gives) =
    den_in bound columns f word x clear.0 is inner
den_in standing columns (compose f g) word value clear is (x, out, inner, outputs, outer) =
    den_in standing columns f word x clear.0 is inner
den_in standing columns (collect chosen sync rate f) word value clear is
    (entries, in_rate, each, all) = in_rate
