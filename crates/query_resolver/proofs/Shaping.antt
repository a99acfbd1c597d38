-- What a node is resolved to, from what its operands are.
use Rattle.std.proofs.Common.{◌≡◌, Bool, true, false, List, Ok, Err, FitsSigned, refl, sym, ◌∙◌, ap}
use Rattle.std.proofs.Common.{subst}
use Rattle.std.specs.Int.{w64}
use Rattle.std.proofs.lemmas.Bool.{eqb-true}
use Rattle.item_schema.specs.declared.column.Column.{Column}
use Rattle.language_base.specs.declared.rule.Rule.TheVariants.{Name, Mismatch}
use Rattle.language_base.specs.declared.span.Span.{Span}
use Rattle.query_model.specs.Queries.{Qre, eps, choice, split, iter, combine, apply, plain_of}
use Rattle.query_model.specs.QueryTypes as types
use Rattle.query_model.specs.QueryTypes.{type_of, type_of_expression}
use Rattle.query_model.specs.Rules.{IsTyped}
use Rattle.query_syntax.specs.Expressions as e
use Rattle.query_syntax.specs.Queries as q
use Rattle.query_syntax.specs.declared.leaf.Name as leaf
use Rattle.query_syntax.specs.declared.leaf.Number.{Number}
use Rattle.query_resolver.specs.Expressions.{of_one, of_two}
use Rattle.query_resolver.specs.Findings.{IsUnresolved, places_at, places_in}
use Rattle.query_resolver.specs.Nodes.{alone, places_of, with_one, with_two}
use Rattle.query_resolver.specs.Resolutions.{IsRefused, IsMade, IsNumberOver, IsValueOver}
use Rattle.query_resolver.specs.Resolutions.{number_then, typed_then}
use Rattle.query_resolver.specs.Resolved.{Nesting, resolved, same_type}
use Rattle.query_resolver.specs.Steps.{◌>>=◌, provided, refusal}
use Rattle.query_resolver.specs.declared.query_types.Typed.{Typed}
use Rattle.query_resolver.specs.declared.stop.CheckStop.{CheckStop}
use Rattle.query_resolver.specs.declared.stop.CheckStop.TheVariants.{Refused, Memory}
use Rattle.query_resolver.proofs.FromOperands.{made_of, no_place, one_place, two_places}
use Rattle.query_resolver.proofs.Valued.{fit, fit_number}
use Rattle.expressions.specs.Expressions as values
use Rattle.expressions.specs.Typing.{HasType, Types}
use Rattle.expressions.specs.declared.expr.Expr.{Expr}
use Rattle.value_ops.specs.declared.value.ValueType.{ValueType}
use Rattle.value_ops.specs.declared.value.ValueType.TheVariants as type

-- types that pass the test are one
pub same_is : (one other : ValueType) → same_type one other ≡ true → one ≡ other
same_is type.Number type.Number is = refl
same_is (type.Rec size) (type.Rec other) is = ap type.Rec (eqb-true size other is)
same_is type.Table type.Table is = refl
same_is _ _ is = cc

-- the types of two values
pub two_types : (names : Types) (a b c d : ValueType) → names ≡ types.of_two a b → a ≡ c → b ≡ d
    → names ≡ types.of_two c d
two_types names a b c d is first second = rw (← first, ← second) is

module _ (nesting : Nesting) (columns : List Column) where
  -- a name stands for no query
  pub name_refused : (name : leaf.Name)
      → resolved nesting columns (q.name name) ≡ Err (refusal Name name.span)
  unfolding resolved
  name_refused name = refl

  -- a number
  pub eps_made : (number : Number) (span : Span) (made : Typed) → FitsSigned w64 number.value
      → plain_of made.query.value.shape ≡ eps number.value
      → places_at made.query.value.shape ≡ alone → made.query.value.span ≡ span
      → made.ty ≡ type.Number → IsMade nesting columns (q.eps number span) made
  unfolding resolved
  eps_made number span made fits is places at ty =
      made_of nesting columns (q.eps number span) made (eps number.value) is refl ty fits
      (no_place made.query.value span places at)

  -- a choice
  module _ (f g : q.Query) (left right : Typed) (is_left : IsMade nesting columns f left)
      (is_right : IsMade nesting columns g right) (span : Span) where
    or_step : resolved nesting columns (q.or f g span)
        ≡ (provided Mismatch span (same_type (type_of columns (plain_of right.query.value.shape))
        (type_of columns (plain_of left.query.value.shape)))
        >>= (λ (typed : Unit {0}).
        Ok (choice (plain_of left.query.value.shape) (plain_of right.query.value.shape))))
    unfolding resolved
    or_step = rw (is_left.resolved, is_right.resolved) refl

    or_tested : (same : Bool) → same_type right.ty left.ty ≡ same
        → resolved nesting columns (q.or f g span) ≡ (provided Mismatch span same
        >>= (λ (typed : Unit {0}).
        Ok (choice (plain_of left.query.value.shape) (plain_of right.query.value.shape))))
    or_tested same is =
        let same' : same_type (type_of columns (plain_of right.query.value.shape))
        (type_of columns (plain_of left.query.value.shape)) ≡ same
        = rw (← is_right.typed.type, ← is_left.typed.type) is in
        or_step ∙ ap (λ (b : Bool). provided Mismatch span b
        >>= (λ (typed : Unit {0}).
        Ok (choice (plain_of left.query.value.shape) (plain_of right.query.value.shape)))) same'

    pub or_refused : same_type right.ty left.ty ≡ false → IsRefused nesting columns (q.or f g span)
        (Refused (refusal Mismatch span))
    or_refused differ = or_tested false differ

    pub or_made : (made : Typed) → same_type right.ty left.ty ≡ true
        → plain_of made.query.value.shape
        ≡ choice (plain_of left.query.value.shape) (plain_of right.query.value.shape)
        → places_at made.query.value.shape
        ≡ with_two (places_in left.query.value) (places_in right.query.value)
        → made.query.value.span ≡ span → made.ty ≡ left.ty
        → IsMade nesting columns (q.or f g span) made
    or_made made same is places at ty =
        made_of nesting columns (q.or f g span) made
        (choice (plain_of left.query.value.shape) (plain_of right.query.value.shape)) is
        (or_tested true same) (ty ∙ is_left.typed.type) (
          is_left.typed.keeps,
          is_right.typed.keeps,
          sym is_right.typed.type ∙ same_is right.ty left.ty same ∙ is_left.typed.type,
        )
        (two_places f g left right made.query.value span is_left.places is_right.places places at)

    -- a split, and a combination
    module _ (tree : e.Expression) (names : Types)
        (are : names ≡ types.of_two left.ty right.ty) where
      are_two : names ≡ types.of_two (type_of columns (plain_of left.query.value.shape))
          (type_of columns (plain_of right.query.value.shape))
      are_two = two_types names left.ty right.ty _ _ are is_left.typed.type is_right.typed.type

      split_step : resolved nesting columns (q.split f g tree span)
          ≡ typed_then of_two names tree span
          (split (plain_of left.query.value.shape) (plain_of right.query.value.shape))
      unfolding resolved
      split_step =
          rw (is_left.resolved, is_right.resolved)
          (ap (λ (t : Types). typed_then of_two t tree span
          (split (plain_of left.query.value.shape) (plain_of right.query.value.shape)))
          (sym are_two))

      combine_step : resolved nesting columns (q.combine f g tree span)
          ≡ typed_then of_two names tree span
          (combine (plain_of left.query.value.shape) (plain_of right.query.value.shape))
      unfolding resolved
      combine_step =
          rw (is_left.resolved, is_right.resolved)
          (ap (λ (t : Types). typed_then of_two t tree span
          (combine (plain_of left.query.value.shape) (plain_of right.query.value.shape)))
          (sym are_two))

      pub split_refused : (stop : CheckStop)
          → ((make : values.Expression → Qre)
          → IsUnresolved (typed_then of_two names tree span make) stop)
          → IsRefused nesting columns (q.split f g tree span) stop
      split_refused (Refused why) left' =
          split_step
          ∙ left' (split (plain_of left.query.value.shape) (plain_of right.query.value.shape))
      split_refused Memory left' = tt

      pub combine_refused : (stop : CheckStop)
          → ((make : values.Expression → Qre)
          → IsUnresolved (typed_then of_two names tree span make) stop)
          → IsRefused nesting columns (q.combine f g tree span) stop
      combine_refused (Refused why) left' =
          combine_step
          ∙ left' (combine (plain_of left.query.value.shape) (plain_of right.query.value.shape))
      combine_refused Memory left' = tt

      module _ (value : Expr) (ty : ValueType)
          (is_value : IsValueOver of_two names tree value ty) (made : Typed)
          (places : places_at made.query.value.shape
          ≡ with_two (places_in left.query.value) (places_in right.query.value))
          (at : made.query.value.span ≡ span) (type_is : made.ty ≡ ty) where
        type_two : made.ty ≡ type_of_expression
            (types.of_two (type_of columns (plain_of left.query.value.shape))
            (type_of columns (plain_of right.query.value.shape)))
            (values.plain_of value)
        type_two = type_is ∙ is_value.type
            ∙ ap (λ (t : Types). type_of_expression t (values.plain_of value)) are_two

        typed_two : IsTyped
            (types.of_two (type_of columns (plain_of left.query.value.shape))
            (type_of columns (plain_of right.query.value.shape)))
            (values.plain_of value)
        typed_two = subst (λ (t : Types). IsTyped t (values.plain_of value)) are_two is_value.typed

        places_two : places_in made.query.value ≡ with_two (places_of f) (places_of g) span
        places_two =
            two_places f g left right made.query.value span is_left.places is_right.places places at

        fit_two : (make : values.Expression → Qre) → typed_then of_two names tree span make ≡ Ok
            (make (values.plain_of value))
        fit_two make = fit of_two names tree span (values.plain_of value) (sym is_value.named)
            is_value.passes make

        pub split_made : plain_of made.query.value.shape
            ≡ split (plain_of left.query.value.shape) (plain_of right.query.value.shape)
            (values.plain_of value) → IsMade nesting columns (q.split f g tree span) made
        split_made is =
            made_of nesting columns (q.split f g tree span) made
            (split (plain_of left.query.value.shape) (plain_of right.query.value.shape)
            (values.plain_of value)) is
            (split_step
            ∙ fit_two (split (plain_of left.query.value.shape) (plain_of right.query.value.shape)))
            type_two (is_left.typed.keeps, is_right.typed.keeps, typed_two)
            places_two

        pub combine_made : plain_of made.query.value.shape
            ≡ combine (plain_of left.query.value.shape) (plain_of right.query.value.shape)
            (values.plain_of value) → IsMade nesting columns (q.combine f g tree span) made
        combine_made is =
            made_of nesting columns (q.combine f g tree span) made
            (combine (plain_of left.query.value.shape) (plain_of right.query.value.shape)
            (values.plain_of value)) is
            (combine_step ∙ fit_two
            (combine (plain_of left.query.value.shape) (plain_of right.query.value.shape)))
            type_two (is_left.typed.keeps, is_right.typed.keeps, typed_two)
            places_two

  -- an iteration, and an application
  module _ (f : q.Query) (inner : Typed) (is_inner : IsMade nesting columns f inner)
      (tree : e.Expression) (span : Span) (names : Types) where
    module _ (first : Number) (are : names ≡ types.of_two type.Number inner.ty) where
      are_number : names
          ≡ types.of_two type.Number (type_of columns (plain_of inner.query.value.shape))
      are_number = two_types names type.Number inner.ty type.Number _ are refl is_inner.typed.type

      iter_step : resolved nesting columns (q.iter f first tree span)
          ≡ number_then of_two names tree span (iter (plain_of inner.query.value.shape) first.value)
      unfolding resolved
      iter_step =
          rw (is_inner.resolved)
          (ap (λ (t : Types). number_then of_two t tree span
          (iter (plain_of inner.query.value.shape) first.value))
          (sym are_number))

      pub iter_refused : (stop : CheckStop)
          → ((make : values.Expression → Qre)
          → IsUnresolved (number_then of_two names tree span make) stop)
          → IsRefused nesting columns (q.iter f first tree span) stop
      iter_refused (Refused why) left' =
          iter_step ∙ left' (iter (plain_of inner.query.value.shape) first.value)
      iter_refused Memory left' = tt

      pub iter_made : (value : Expr) (made : Typed) → IsNumberOver of_two names tree value
          → FitsSigned w64 first.value
          → plain_of made.query.value.shape
          ≡ iter (plain_of inner.query.value.shape) first.value (values.plain_of value)
          → places_at made.query.value.shape ≡ with_one (places_in inner.query.value)
          → made.query.value.span ≡ span → made.ty ≡ type.Number
          → IsMade nesting columns (q.iter f first tree span) made
      iter_made value made is_value fits is places at ty =
          made_of nesting columns (q.iter f first tree span) made
          (iter (plain_of inner.query.value.shape) first.value (values.plain_of value)) is
          (iter_step ∙ fit_number of_two names tree span (values.plain_of value)
          (sym is_value.named)
          is_value.passes (iter (plain_of inner.query.value.shape) first.value))
          ty (
            is_inner.typed.keeps,
            fits,
            subst (λ (t : Types). HasType t (values.plain_of value) type.Number) are_number
                is_value.number,
          )
          (one_place f inner made.query.value span is_inner.places places at)

    module _ (are : names ≡ types.of_one inner.ty) where
      are_one : names ≡ types.of_one (type_of columns (plain_of inner.query.value.shape))
      are_one = are ∙ ap types.of_one is_inner.typed.type

      apply_step : resolved nesting columns (q.apply f tree span)
          ≡ typed_then of_one names tree span (apply (plain_of inner.query.value.shape))
      unfolding resolved
      apply_step =
          rw (is_inner.resolved)
          (ap (λ (t : Types). typed_then of_one t tree span
          (apply (plain_of inner.query.value.shape))) (sym are_one))

      pub apply_refused : (stop : CheckStop)
          → ((make : values.Expression → Qre)
          → IsUnresolved (typed_then of_one names tree span make) stop)
          → IsRefused nesting columns (q.apply f tree span) stop
      apply_refused (Refused why) left' =
          apply_step ∙ left' (apply (plain_of inner.query.value.shape))
      apply_refused Memory left' = tt

      pub apply_made : (value : Expr) (made : Typed) (ty : ValueType)
          → IsValueOver of_one names tree value ty → plain_of made.query.value.shape
          ≡ apply (plain_of inner.query.value.shape) (values.plain_of value)
          → places_at made.query.value.shape ≡ with_one (places_in inner.query.value)
          → made.query.value.span ≡ span → made.ty ≡ ty
          → IsMade nesting columns (q.apply f tree span) made
      apply_made value made ty is_value is places at ty_is =
          made_of nesting columns (q.apply f tree span) made
          (apply (plain_of inner.query.value.shape) (values.plain_of value)) is
          (apply_step ∙ fit of_one names tree span (values.plain_of value) (sym is_value.named)
          is_value.passes (apply (plain_of inner.query.value.shape)))
          (ty_is ∙ is_value.type
          ∙ ap (λ (t : Types). type_of_expression t (values.plain_of value)) are_one) (
            is_inner.typed.keeps,
            subst (λ (t : Types). IsTyped t (values.plain_of value)) are_one is_value.typed,
          )
          (one_place f inner made.query.value span is_inner.places places at)
