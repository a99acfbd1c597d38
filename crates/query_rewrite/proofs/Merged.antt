-- Two expressions, one applied after the other, are made one.
use Rattle.std.proofs.Common.{◌≡◌, ◌∙◌, ◌⊎◌, List, Some, refl, ap, sym, subst}
use Rattle.std.proofs.Common.{arith, inl, inr}
use Rattle.expressions.specs.declared.expr.Var.TheVariants.{Left}
use Rattle.value_ops.specs.declared.value.Value.{Value}
use Rattle.value_ops.specs.declared.value.ValueType.{ValueType}
use Rattle.value_ops.specs.declared.value.ValueType.TheVariants as type
use Rattle.expressions.specs.Expressions.{Expression, read}
use Rattle.expressions.specs.Typing.{HasType}
use Rattle.item_schema.specs.declared.column.Column.{Column}
use Rattle.rate_expr.specs.Words.{Word, IsWordOf}
use Rattle.query_model.specs.Denotation.{Den, on_one}
use Rattle.query_model.specs.Queries.{Qre, apply}
use Rattle.query_model.specs.QueryTypes.{of_one, type_of}
use Rattle.query_model.specs.Rules.{Standing, bound, IsClear}
use Rattle.query_model.proofs.Expressed.{one_gives}
use Rattle.query_model.proofs.Inside.{same_inside}
use Rattle.query_model.proofs.Typed.{den_typed}
use Rattle.query_rewrite.specs.Filling.{filled}
use Rattle.query_rewrite.specs.Rewriting.{IsReadOnce, Merge}
use Rattle.query_rewrite.proofs.Alike.{IsAlike}
use Rattle.query_rewrite.proofs.Fillings.{filled_self, filled_type, filled_value}
use Rattle.query_rewrite.proofs.ExpressionTypes.{typed_type}

-- the type of the left value itself
left_type : (given ty : ValueType) → HasType (of_one given) (read Left) ty → given ≡ ty
left_type given type.Number is = same_inside given type.Number is
left_type given (type.Rec size) is = same_inside given (type.Rec size) is
left_type given type.Table is = same_inside given type.Table is

-- the expression made of both has the type of the outer one
merged_type : (given ty result : ValueType) (e d : Expression)
    → (e ≡ read Left) ⊎ IsReadOnce d → HasType (of_one given) e ty → HasType (of_one ty) d result
    → HasType (of_one given) (filled e d) result
merged_type given ty result e d (inl left) inner outer =
    let same : given ≡ ty = left_type given ty (subst (λ x. HasType (of_one given) x ty) left inner)
    in
    subst (λ x. HasType (of_one given) (filled x d) result) (sym left)
    (subst (λ x. HasType (of_one given) x result) (sym (filled_self d))
    (subst (λ t. HasType (of_one t) d result) (sym same) outer))
merged_type given ty result e d (inr once) inner outer =
    filled_type given ty e inner d result once.operand outer

-- and gives what that gives on the value of the inner one
merged_value : (e d : Expression) (x y : Value) → (e ≡ read Left) ⊎ IsReadOnce d
    → on_one e x ≡ Some y → on_one (filled e d) x ≡ on_one d y
merged_value e d x y (inl left) gives =
    let same : x ≡ y = same_inside x y (ap (λ z. on_one z x) (sym left) ∙ gives) in
    ap (λ z. on_one (filled z d) x) left ∙ ap (λ z. on_one z x) (filled_self d)
    ∙ ap (on_one d) same
merged_value e d x y (inr once) gives = filled_value e x y gives d once.operand

module _ (standing : Standing) (columns : List Column) (f : Qre) (e d : Expression)
    (can : Merge e d) (clear : IsClear standing columns (apply (apply f e) d)) where
  merged_there : (word : Word) (v : Value) → IsWordOf columns word
      → Den (apply (apply f e) d) word v → Den (apply f (filled e d)) word v
  merged_there word v is (y, (x, den, inner), outer) =
      (x, den, merged_value e d x y can.once inner ∙ outer)

  merged_back : (word : Word) (v : Value) → IsWordOf columns word
      → Den (apply f (filled e d)) word v → Den (apply (apply f e) d) word v
  merged_back word v is (x, den, gives) =
      let inner = one_gives (type_of columns f) _ e x
      (den_typed bound columns f word x clear.0.0 is den) clear.0.1 in
      (inner.0, (x, den, inner.1), sym (merged_value e d x inner.0 can.once inner.1) ∙ gives)

  outer_type : HasType (of_one (type_of columns f)) (filled e d)
      (type_of columns (apply (apply f e) d))
  outer_type = merged_type (type_of columns f) (type_of columns (apply f e))
      (type_of columns (apply (apply f e) d)) e d can.once clear.0.1 clear.1

  pub merged_alike : IsAlike standing columns (apply (apply f e) d) (apply f (filled e d))
  merged_alike =
      let same : type_of columns (apply f (filled e d)) ≡ type_of columns (apply (apply f e) d) =
      typed_type (of_one (type_of columns f)) (filled e d) (type_of columns (apply (apply f e) d))
      outer_type in record {
        clear = (
          clear.0.0,
          subst (HasType (of_one (type_of columns f)) (filled e d)) (sym same) outer_type,
        );
        type = same;
        words = λ word. ((λ is. is), (λ is. is));
        positions = refl;
        places = refl;
        inner = omega arith;
        nodes = omega arith;
        tests = refl;
        few_positions = λ few. few;
        few_cells = λ few. few;
        few_levels = λ few. (few.0.0, can.levels);
        no_collect = λ none. none;
        means = λ word v is. (merged_there word v is, merged_back word v is);
      }
