-- What the passes over an expression find, from its names and its types.
use Rattle.std.proofs.Common.{◌≡◌, true, false, Some, None, Ok, Err, refl}
use Rattle.language_base.specs.declared.rule.Rule.TheVariants.{Name, Mismatch}
use Rattle.language_base.specs.declared.span.Span.{Span}
use Rattle.query_model.specs.Queries.{Qre}
use Rattle.query_syntax.specs.Expressions as e
use Rattle.expressions.specs.Expressions.{Expression}
use Rattle.expressions.specs.Typing.{HasType, Types}
use Rattle.value_ops.specs.declared.value.ValueType.{ValueType}
use Rattle.query_resolver.specs.Expressions.{Scope, expression_over, is_number, is_typed}
use Rattle.query_resolver.specs.Resolutions.{number_then, typed_then}
use Rattle.query_resolver.specs.Scopes.{HasFittingNumbers}
use Rattle.query_resolver.specs.Steps.{refusal}
use Rattle.query_resolver.proofs.WellTyped.{untyped}

module _ (scope : Scope) (types : Types) (tree : e.Expression) (span : Span) where
  -- a name stands for nothing
  pub unnamed : None ≡ expression_over scope tree → (make : Expression → Qre)
      → typed_then scope types tree span make ≡ Err (refusal Name span)
  unnamed is make = rw (← is) refl

  pub unnamed_number : None ≡ expression_over scope tree → (make : Expression → Qre)
      → number_then scope types tree span make ≡ Err (refusal Name span)
  unnamed_number is make = rw (← is) refl

  module _ (value : Expression) (named : Some value ≡ expression_over scope tree) where
    -- the types do not fit
    fails : is_typed types value ≡ false → (make : Expression → Qre)
        → typed_then scope types tree span make ≡ Err (refusal Mismatch span)
    fails is make = rw (← named, is) refl

    pub fails_number : is_number types value ≡ false → (make : Expression → Qre)
        → number_then scope types tree span make ≡ Err (refusal Mismatch span)
    fails_number is make = rw (← named, is) refl

    pub unfit : HasFittingNumbers value → ((type : ValueType) → HasType types value type → ⊥) →
        (make : Expression → Qre)
        → typed_then scope types tree span make ≡ Err (refusal Mismatch span)
    unfit fits none make = fails (untyped types value fits none) make

    -- they fit
    pub fit : is_typed types value ≡ true → (make : Expression → Qre)
        → typed_then scope types tree span make ≡ Ok (make value)
    fit is make = rw (← named, is) refl

    pub fit_number : is_number types value ≡ true → (make : Expression → Qre)
        → number_then scope types tree span make ≡ Ok (make value)
    fit_number is make = rw (← named, is) refl
