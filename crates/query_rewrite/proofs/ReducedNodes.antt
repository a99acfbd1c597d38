-- A query with its expression reduced is alike.
use Rattle.std.proofs.Common.{◌≡◌, ◌∙◌, ◌+◌, ◌++◌, ℤ, List, [], ◌∷◌, None, Some, refl}
use Rattle.std.proofs.Common.{sym, subst, arith}
use Rattle.value_ops.specs.declared.field.Field.{Field}
use Rattle.value_ops.specs.declared.scalar.Scalar.TheVariants as scalar
use Rattle.value_ops.specs.declared.value.Value.{Value}
use Rattle.value_ops.specs.declared.value.Value.TheVariants as value
use Rattle.value_ops.specs.declared.value.ValueType.{ValueType}
use Rattle.value_ops.specs.declared.value.ValueType.TheVariants.{Number}
use Rattle.expressions.specs.Evaluation.{given, value_of}
use Rattle.expressions.specs.Expressions.{Expression}
use Rattle.value_ops.specs.Types.{IsValueOf}
use Rattle.expressions.specs.Typing.{HasType}
use Rattle.item_schema.specs.declared.column.Column.{Column}
use Rattle.predicates.specs.Predicates.{Predicate}
use Rattle.rate_expr.specs.Words.{Word, IsWordOf, join}
use Rattle.rate_expr.proofs.Wording.{word_parts}
use Rattle.query_model.specs.Denotation.{Den, Folds, on_both, on_one}
use Rattle.query_model.specs.Queries.{Qre, atom, split, iter, combine, apply}
use Rattle.query_model.specs.QueryTypes.{of_columns, of_one, of_two, type_of}
use Rattle.query_model.specs.Rules.{Standing, bound, IsClear, IsTyped}
use Rattle.query_model.proofs.Expressed.{two_ranges}
use Rattle.query_model.proofs.InRates.{OnValues}
use Rattle.query_model.proofs.ItemFields.{atom_types, one_type, two_types}
use Rattle.query_model.proofs.Typed.{den_typed}
use Rattle.query_rewrite.specs.Reducing.{reduced}
use Rattle.query_rewrite.proofs.Alike.{IsAlike}
use Rattle.query_rewrite.proofs.ExpressionTypes.{typed_type}
use Rattle.query_rewrite.proofs.ReducedParts.{levels_reduced}
use Rattle.query_rewrite.proofs.Reductions.{number_reduced, typed_reduced, value_reduced}

-- What the reduced expression gives.

on_item : (columns : List Column) (item : List Field) (e : Expression)
    → IsWordOf columns (item ∷ [])
    → IsTyped (of_columns columns) e
    → value_of (given item None None) (reduced e) ≡ value_of (given item None None) e
on_item columns item e is typed =
    value_reduced (given item None None) (of_columns columns) e (atom_types columns item is.0) typed

on_value : (ty : ValueType) (x : Value) (e : Expression) → IsValueOf ty x → IsTyped (of_one ty) e
    → on_one (reduced e) x ≡ on_one e x
on_value ty x e is typed =
    value_reduced (given [] (Some x) None) (of_one ty) e (one_type ty x is) typed

on_values : (ty other : ValueType) (x y : Value) (e : Expression) → IsValueOf ty x
    → IsValueOf other y → IsTyped (of_two ty other) e → on_both (reduced e) x y ≡ on_both e x y
on_values ty other x y e is also typed =
    value_reduced (given [] (Some x) (Some y)) (of_two ty other) e (two_types ty other x y is also)
    typed

-- Atoms and applications.

pub atom_reduced : (standing : Standing) (columns : List Column) (pred : Predicate) (e : Expression)
    → IsClear standing columns (atom pred e)
    → IsAlike standing columns (atom pred e) (atom pred (reduced e))
atom_reduced standing columns pred e clear =
    let keeps = typed_reduced (of_columns columns) e clear.1 in record {
      clear = (clear.0, keeps.typed);
      type = keeps.type;
      words = λ word. ((λ is. is), (λ is. is));
      positions = refl;
      places = refl;
      inner = omega arith;
      nodes = omega arith;
      tests = refl;
      few_positions = λ few. few;
      few_cells = λ few. few;
      few_levels = λ few. (few.0, omega (arith, levels_reduced e, few.1));
      no_collect = λ none. none;
      means = λ word v is. (
        (λ (item, whole, meets, gives). (
          item,
          whole,
          meets,
          on_item columns item e (subst (IsWordOf columns) whole is) clear.1 ∙ gives,
        )),
        (λ (item, whole, meets, gives). (
          item,
          whole,
          meets,
          sym (on_item columns item e (subst (IsWordOf columns) whole is) clear.1) ∙ gives,
        )),
      );
    }

pub apply_reduced : (standing : Standing) (columns : List Column) (f : Qre) (e : Expression)
    → IsClear standing columns (apply f e)
    → IsAlike standing columns (apply f e) (apply f (reduced e))
apply_reduced standing columns f e clear =
    let keeps = typed_reduced (of_one (type_of columns f)) e clear.1 in record {
      clear = (clear.0, keeps.typed);
      type = keeps.type;
      words = λ word. ((λ is. is), (λ is. is));
      positions = refl;
      places = refl;
      inner = omega arith;
      nodes = omega arith;
      tests = refl;
      few_positions = λ few. few;
      few_cells = λ few. few;
      few_levels = λ few. (few.0, omega (arith, levels_reduced e, few.1));
      no_collect = λ none. none;
      means = λ word v is. (
        (λ (x, den, gives). (x, den, same word x is den ∙ gives)),
        (λ (x, den, gives). (x, den, sym (same word x is den) ∙ gives)),
      );
    }
  where
    same : (word : Word) (x : Value) → IsWordOf columns word → Den f word x
        → on_one (reduced e) x ≡ on_one e x
    same word x is den =
        on_value (type_of columns f) x e (den_typed bound columns f word x clear.0 is den) clear.1

-- Of two operands.

pub split_reduced : (standing : Standing) (columns : List Column) (f g : Qre) (e : Expression)
    → IsClear standing columns (split f g e)
    → IsAlike standing columns (split f g e) (split f g (reduced e))
split_reduced standing columns f g e clear =
    let keeps = typed_reduced (of_two (type_of columns f) (type_of columns g)) e clear.2 in record {
      clear = (clear.0, clear.1, keeps.typed, clear.3);
      type = keeps.type;
      words = λ word. ((λ is. is), (λ is. is));
      positions = refl;
      places = refl;
      inner = omega arith;
      nodes = omega arith;
      tests = refl;
      few_positions = λ few. few;
      few_cells = λ few. few;
      few_levels = λ few. (few.0, few.1, omega (arith, levels_reduced e, few.2));
      no_collect = λ none. none;
      means = λ word v is. (
        (λ (first, second, x, y, whole, left, right, gives). (
          first,
          second,
          x,
          y,
          whole,
          left,
          right,
          same first second x y (subst (IsWordOf columns) whole is) left right ∙ gives,
        )),
        (λ (first, second, x, y, whole, left, right, gives). (
          first,
          second,
          x,
          y,
          whole,
          left,
          right,
          sym (same first second x y (subst (IsWordOf columns) whole is) left right) ∙ gives,
        )),
      );
    }
  where
    same : (first second : Word) (x y : Value) → IsWordOf columns (first ++ second)
        → Den f first x → Den g second y → on_both (reduced e) x y ≡ on_both e x y
    same first second x y is left right =
        let parts = word_parts columns first second is in
        on_values (type_of columns f) (type_of columns g) x y e
        (den_typed bound columns f first x clear.0 parts.0 left)
        (den_typed bound columns g second y clear.1 parts.1 right) clear.2

pub combine_reduced : (standing : Standing) (columns : List Column) (f g : Qre) (e : Expression)
    → IsClear standing columns (combine f g e)
    → IsAlike standing columns (combine f g e) (combine f g (reduced e))
combine_reduced standing columns f g e clear =
    let keeps = typed_reduced (of_two (type_of columns f) (type_of columns g)) e clear.2 in record {
      clear = (clear.0, clear.1, keeps.typed, clear.3);
      type = keeps.type;
      words = λ word. ((λ is. is), (λ is. is));
      positions = refl;
      places = refl;
      inner = omega arith;
      nodes = omega arith;
      tests = refl;
      few_positions = λ few. few;
      few_cells = λ few. few;
      few_levels = λ few. (few.0, few.1, omega (arith, levels_reduced e, few.2));
      no_collect = λ none. none;
      means = λ word v is. (
        (λ (x, y, left, right, gives).
            (x, y, left, right, same word x y is left right ∙ gives)),
        (λ (x, y, left, right, gives).
            (x, y, left, right, sym (same word x y is left right) ∙ gives)),
      );
    }
  where
    same : (word : Word) (x y : Value) → IsWordOf columns word → Den f word x → Den g word y
        → on_both (reduced e) x y ≡ on_both e x y
    same word x y is left right =
        on_values (type_of columns f) (type_of columns g) x y e
        (den_typed bound columns f word x clear.0 is left)
        (den_typed bound columns g word y clear.1 is right) clear.2

-- Iterations: the expression is folded over numbers.

module _ (columns : List Column) (D : Word → Value → Type 0) (ty : ValueType) (e : Expression)
    (each : OnValues columns D (λ word v. IsValueOf ty v))
    (typed : HasType (of_two Number ty) e Number) where
  is_typed : IsTyped (of_two Number ty) e
  is_typed =
      subst (HasType (of_two Number ty) e) (sym (typed_type (of_two Number ty) e Number typed))
      typed

  fold_there : (so_far : Value) (pieces : List Word) (v : Value) → IsValueOf Number so_far
      → IsWordOf columns (join pieces) → Folds D e so_far pieces v
      → Folds D (reduced e) so_far pieces v
  fold_there so_far [] v begins is folds = folds
  fold_there so_far (piece ∷ pieces) v begins is (last, next, den, gives, folds) =
      let parts = word_parts columns piece (join pieces) is in
      let last_is = each piece last parts.0 den in (
        last,
        next,
        den,
        on_values Number ty so_far last e begins last_is is_typed ∙ gives,
        fold_there next pieces v
            (two_ranges Number ty Number e so_far last next begins last_is typed
            gives) parts.1 folds,
      )

  fold_back : (so_far : Value) (pieces : List Word) (v : Value) → IsValueOf Number so_far
      → IsWordOf columns (join pieces) → Folds D (reduced e) so_far pieces v
      → Folds D e so_far pieces v
  fold_back so_far [] v begins is folds = folds
  fold_back so_far (piece ∷ pieces) v begins is (last, next, den, gives, folds) =
      let parts = word_parts columns piece (join pieces) is in
      let last_is = each piece last parts.0 den in
      let gave : on_both e so_far last ≡ Some next =
      sym (on_values Number ty so_far last e begins last_is is_typed) ∙ gives in (
        last,
        next,
        den,
        gave,
        fold_back next pieces v (two_ranges Number ty Number e so_far last next begins last_is typed
            gave) parts.1 folds,
      )

pub iter_reduced : (standing : Standing) (columns : List Column) (f : Qre) (number : ℤ)
    (e : Expression) → IsClear standing columns (iter f number e)
    → IsAlike standing columns (iter f number e) (iter f number (reduced e))
iter_reduced standing columns f number e clear = record {
  clear = (
    clear.0,
    clear.1,
    number_reduced (of_two Number (type_of columns f)) e clear.2,
    clear.3,
  );
  type = refl;
  words = λ word. ((λ is. is), (λ is. is));
  positions = refl;
  places = refl;
  inner = omega arith;
  nodes = omega arith;
  tests = refl;
  few_positions = λ few. few;
  few_cells = λ few. few;
  few_levels = λ few. (few.0, omega (arith, levels_reduced e, few.1));
  no_collect = λ none. none;
  means = λ word v is. (
    (λ (pieces, whole, folds). (
      pieces,
      whole,
      fold_there columns (Den f) (type_of columns f) e typed_pieces clear.2
          (value.Scalar (scalar.Number number)) pieces v clear.1 (subst (IsWordOf columns) whole is)
          folds,
    )),
    (λ (pieces, whole, folds). (
      pieces,
      whole,
      fold_back columns (Den f) (type_of columns f) e typed_pieces clear.2
          (value.Scalar (scalar.Number number)) pieces v clear.1 (subst (IsWordOf columns) whole is)
          folds,
    )),
  );
}
  where
    typed_pieces : OnValues columns (Den f) (λ word v. IsValueOf (type_of columns f) v)
    typed_pieces word v is den = den_typed bound columns f word v clear.0 is den
