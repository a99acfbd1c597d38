-- What a composition is resolved to.
use Rattle.std.proofs.Common.{◌≡◌, List, Ok, Err, refl, ◌∙◌, ap, subst}
use Rattle.item_schema.specs.Layout.{Layout, derived_layout}
use Rattle.item_schema.specs.declared.column.Column.{Column}
use Rattle.language_base.specs.declared.span.Span.{Span}
use Rattle.query_model.specs.Queries.{compose, plain_of}
use Rattle.query_model.specs.QueryTypes.{derived_columns, type_of}
use Rattle.query_model.specs.Rules.{HasNoCollect}
use Rattle.query_syntax.specs.Queries as q
use Rattle.query_resolver.specs.Findings.{KeepsTypes, places_at, places_in}
use Rattle.query_resolver.specs.Nodes.{with_two}
use Rattle.query_resolver.specs.Resolutions.{IsMade, IsRefused}
use Rattle.query_resolver.specs.Resolved.{Nesting, inside, resolved}
use Rattle.query_resolver.specs.declared.query_types.Typed.{Typed}
use Rattle.query_resolver.specs.declared.stop.CheckStop.{CheckStop}
use Rattle.query_resolver.specs.declared.stop.CheckStop.TheVariants.{Refused, Memory}
use Rattle.query_resolver.proofs.After.{of_value}
use Rattle.query_resolver.proofs.Nested.{none_inside}
use Rattle.query_resolver.proofs.FromOperands.{made_of, two_places}
use Rattle.value_ops.specs.declared.value.ValueType.{ValueType}

-- an operand that is made inside has no collection
pub made_inside : (columns : List Column) (f : q.Query) (made : Typed)
    → IsMade inside columns f made → HasNoCollect (plain_of made.query.value.shape)
made_inside columns f made is =
    of_value HasNoCollect (resolved inside columns f) (plain_of made.query.value.shape) is.resolved
    (none_inside columns f)

-- what holds over the columns of a stream of values
pub on_values : (layout : Layout) (type : ValueType) → layout ≡ derived_layout type
    → (P : List Column → Type 0) → P layout.columns → P (derived_columns type)
on_values layout type is P holds = subst (λ (l : Layout). P l.columns) is holds

module _ (nesting : Nesting) (columns : List Column) (f g : q.Query) (span : Span) where
  -- a composition is refused where its first operand is
  pub compose_first : (stop : CheckStop) → IsRefused nesting columns f stop
      → IsRefused nesting columns (q.compose f g span) stop
  unfolding resolved
  compose_first (Refused why) first = rw first refl
  compose_first Memory first = tt

  module _ (left : Typed) (is_left : IsMade nesting columns f left) where
    -- or its second one
    pub compose_second : (stop : CheckStop) → IsRefused inside (derived_columns left.ty) g stop
        → IsRefused nesting columns (q.compose f g span) stop
    unfolding resolved
    compose_second (Refused why) second =
        let over : resolved inside
        (derived_columns (type_of columns (plain_of left.query.value.shape))) g ≡ Err why =
        subst (λ (ty : ValueType). resolved inside (derived_columns ty) g ≡ Err why)
        is_left.typed.type second in
        rw (is_left.resolved, over) refl
    compose_second Memory second = tt

    module _ (right : Typed) (is_right : IsMade inside (derived_columns left.ty) g right) where
      compose_step : resolved nesting columns (q.compose f g span)
          ≡ Ok (compose (plain_of left.query.value.shape) (plain_of right.query.value.shape))
      unfolding resolved
      compose_step =
          let over : resolved inside
          (derived_columns (type_of columns (plain_of left.query.value.shape))) g
          ≡ Ok (plain_of right.query.value.shape) =
          subst (λ (ty : ValueType). resolved inside (derived_columns ty) g
          ≡ Ok (plain_of right.query.value.shape))
          is_left.typed.type is_right.resolved in
          rw (is_left.resolved, over) refl

      pub compose_made : (made : Typed)
          → plain_of made.query.value.shape
          ≡ compose (plain_of left.query.value.shape) (plain_of right.query.value.shape)
          → places_at made.query.value.shape
          ≡ with_two (places_in left.query.value) (places_in right.query.value)
          → made.query.value.span ≡ span → made.ty ≡ right.ty
          → IsMade nesting columns (q.compose f g span) made
      compose_made made is places at ty =
          made_of nesting columns (q.compose f g span) made
          (compose (plain_of left.query.value.shape) (plain_of right.query.value.shape)) is
          compose_step (ty ∙ is_right.typed.type
          ∙ ap (λ (t : ValueType). type_of (derived_columns t) (plain_of right.query.value.shape))
          is_left.typed.type) (
            is_left.typed.keeps,
            subst (λ (t : ValueType). KeepsTypes (derived_columns t)
                (plain_of right.query.value.shape)) is_left.typed.type
                is_right.typed.keeps,
            made_inside (derived_columns left.ty) g right is_right,
          )
          (two_places f g left right made.query.value span is_left.places is_right.places places at)
