-- What an atom is resolved to.
use Rattle.std.proofs.Common.{◌≡◌, true, false, List, Option, Some, None, Ok, Err, refl, ◌∙◌, ap}
use Rattle.std.proofs.Common.{subst}
use Rattle.item_schema.specs.declared.column.Column.{Column}
use Rattle.language_base.specs.declared.rule.Rule.TheVariants.{Name, Mismatch}
use Rattle.language_base.specs.declared.span.Span.{Span}
use Rattle.predicates.specs.Fits.{fits}
use Rattle.predicates.specs.Predicates as plain
use Rattle.query_model.specs.Queries.{atom, plain_of}
use Rattle.query_model.specs.QueryTypes as types
use Rattle.query_syntax.specs.Expressions as e
use Rattle.query_syntax.specs.Predicates as p
use Rattle.query_syntax.specs.Queries as q
use Rattle.query_resolver.specs.Expressions.{expression_over, is_typed, of_item}
use Rattle.query_resolver.specs.Findings.{IsUnresolved, places_at}
use Rattle.query_resolver.specs.Nodes.{alone}
use Rattle.query_resolver.specs.Resolutions.{HasTypes, IsMade, IsRefused, columns_of}
use Rattle.query_resolver.specs.Resolved.{Nesting, resolved}
use Rattle.query_resolver.specs.Scopes.{HasFittingNumbers}
use Rattle.query_resolver.specs.Steps.{found, refusal}
use Rattle.query_resolver.specs.Tests.{resolved_over}
use Rattle.query_resolver.specs.declared.query_types.Typed.{Typed}
use Rattle.query_resolver.specs.declared.shapes.Items.{Items}
use Rattle.query_resolver.specs.declared.stop.CheckStop.{CheckStop}
use Rattle.query_resolver.specs.declared.stop.CheckStop.TheVariants.{Refused, Memory}
use Rattle.query_resolver.proofs.FromOperands.{made_of, no_place}
use Rattle.query_resolver.proofs.WellTyped.{is_typed_true, type_is, untyped, well_typed}
use Rattle.expressions.specs.Expressions as values
use Rattle.expressions.specs.Typing.{HasType, Types}
use Rattle.value_ops.specs.declared.value.ValueType.{ValueType}

-- the types of the names of an atom
abbrev pub types_in : Items → Types
types_in items = record { fields = items.types.now; left = None; right = None }

pub are_columns : (items : Items) → HasTypes items
    → types_in items ≡ types.of_columns (columns_of items)
are_columns items is =
    ap (λ (fs : List (Option ValueType)). let t : Types =
    record { fields = fs; left = None; right = None } in t) is

module _ (nesting : Nesting) (columns : List Column) (predicate : p.Predicate) (tree : e.Expression)
    (span : Span) where
  -- a name in the predicate is no column's
  pub test_refused : (stop : CheckStop)
      → IsUnresolved (found Name span (resolved_over columns predicate)) stop
      → IsRefused nesting columns (q.atom predicate tree span) stop
  unfolding resolved
  test_refused (Refused why) is = rw is refl
  test_refused Memory is = tt

  module _ (pred : plain.Predicate) (tested : Some pred ≡ resolved_over columns predicate) where
    -- or one in the expression
    pub value_refused : (stop : CheckStop)
        → IsUnresolved (found Name span (expression_over (of_item columns) tree)) stop
        → IsRefused nesting columns (q.atom predicate tree span) stop
    unfolding resolved
    value_refused (Refused why) is = rw (← tested, is) refl
    value_refused Memory is = tt

    module _ (value : values.Expression)
        (named : Some value ≡ expression_over (of_item columns) tree) where
      -- a test is of another kind than its column
      pub unfit : fits columns pred ≡ false
          → resolved nesting columns (q.atom predicate tree span) ≡ Err (refusal Mismatch span)
      unfolding resolved
      unfit is = rw (← tested, ← named, is) refl

      module _ (fit : fits columns pred ≡ true) (numbers : HasFittingNumbers value) (names : Types)
          (are : names ≡ types.of_columns columns) where
        -- the expression is not well typed
        mistyped : is_typed (types.of_columns columns) value ≡ false
            → resolved nesting columns (q.atom predicate tree span) ≡ Err (refusal Mismatch span)
        unfolding resolved
        mistyped is = rw (← tested, ← named, fit, is) refl

        pub ill_typed : ((type : ValueType) → HasType names value type → ⊥)
            → resolved nesting columns (q.atom predicate tree span) ≡ Err (refusal Mismatch span)
        ill_typed none =
            mistyped (subst (λ (t : Types). is_typed t value ≡ false) are
            (untyped names value numbers none))

        passes : is_typed (types.of_columns columns) value ≡ true
            → resolved nesting columns (q.atom predicate tree span) ≡ Ok (atom pred value)
        unfolding resolved
        passes is = rw (← tested, ← named, fit, is) refl

        pub atom_made : (ty : ValueType) (made : Typed) → HasType names value ty
            → plain_of made.query.value.shape ≡ atom pred value
            → places_at made.query.value.shape ≡ alone → made.query.value.span ≡ span → made.ty ≡ ty
            → IsMade nesting columns (q.atom predicate tree span) made
        atom_made ty made has is places at ty_is =
            let has' : HasType (types.of_columns columns) value ty =
            subst (λ (t : Types). HasType t value ty) are has in
            made_of nesting columns (q.atom predicate tree span) made (atom pred value) is
            (passes (is_typed_true (types.of_columns columns) value ty has'))
            (ty_is ∙ type_is (types.of_columns columns) value ty has')
            (fit, well_typed (types.of_columns columns) value ty has')
            (no_place made.query.value span places at)
