-- What a collection is resolved to.
use Rattle.std.proofs.Common.{◌≡◌, ◌&&◌, ℕ, Bool, true, false, List, Some, Result, Ok, Err}
use Rattle.std.proofs.Common.{refl, sym, subst, ◌∙◌}
use Rattle.std.specs.List.{list_all}
use Rattle.std.specs.Result.{IfErr, IfOk}
use Rattle.std.proofs.lemmas.Bool.{and_parts}
use Rattle.std.proofs.lemmas.Result.{IfErr-weaker, IfOk-weaker}
use Rattle.item_schema.specs.declared.column.Column.{Column}
use Rattle.language_base.specs.declared.rule.Rule.TheVariants.{Name, Nested, Mismatch}
use Rattle.language_base.specs.declared.span.Span.{Span}
use Rattle.predicates.specs.Fits.{fits}
use Rattle.predicates.specs.Predicates as plain
use Rattle.query_model.specs.Queries.{Qre, collect, plain_of}
use Rattle.query_syntax.specs.Keys.{names_of}
use Rattle.query_syntax.specs.Predicates as p
use Rattle.query_syntax.specs.Queries as q
use Rattle.query_syntax.specs.Rates as r
use Rattle.query_syntax.specs.declared.key.Key.{Key}
use Rattle.rate_expr.specs.Rates.{Regex, preds_of}
use Rattle.query_resolver.specs.Findings.{IsUnresolved, places_at, places_in}
use Rattle.query_resolver.specs.Names.{key_named}
use Rattle.query_resolver.specs.Nodes.{with_one}
use Rattle.query_resolver.specs.Rates.{rate_over}
use Rattle.query_resolver.specs.Resolutions.{IsMadeOfInner, IsMade, IsRefused, IsRefusedOverInner}
use Rattle.query_resolver.specs.Resolved.{Nesting, have_texts, inside, may_collect, resolved}
use Rattle.query_resolver.specs.Resolved.{same_type}
use Rattle.query_resolver.specs.Steps.{◌>>=◌, found, provided, refusal}
use Rattle.query_resolver.specs.Tests.{resolved_over}
use Rattle.query_resolver.specs.declared.query_types.Typed.{Typed}
use Rattle.query_resolver.specs.declared.stop.CheckStop.{CheckStop}
use Rattle.query_resolver.specs.declared.stop.CheckStop.TheVariants.{Refused, Memory}
use Rattle.query_resolver.proofs.Composing.{made_inside}
use Rattle.query_resolver.proofs.FromOperands.{made_of, one_place}
use Rattle.query_resolver.proofs.KeyColumns.{key_columns_are}
use Rattle.query_resolver.proofs.Shaping.{same_is}
use Rattle.value_ops.specs.declared.value.ValueType.{ValueType}
use Rattle.value_ops.specs.declared.value.ValueType.TheVariants as type

module _ (nesting : Nesting) (columns : List Column) (key : Key)
    (sync : p.Predicate) (rate : r.Rate) (f : q.Query) (span : Span) where
  -- a collection is refused where its operand is
  pub collect_first : (stop : CheckStop) → IsRefused inside columns f stop
      → IsRefused nesting columns (q.collect key sync rate f span) stop
  unfolding resolved
  collect_first (Refused why) first = rw first refl
  collect_first Memory first = tt

  module _ (operand : Typed) (is : IsMade inside columns f operand) where
    -- a name of the key is no column's, or that of one before
    pub key_refused : (stop : CheckStop)
        → IsUnresolved (found Name span (key_named columns (names_of key))) stop
        → IsRefused nesting columns (q.collect key sync rate f span) stop
    unfolding resolved
    key_refused (Refused why) none = rw (is.resolved, none) refl
    key_refused Memory none = tt

    module _ (chosen : List ℕ) (keyed : Some chosen ≡ key_named columns (names_of key)) where
      -- or a name in the predicate is none
      pub sync_refused : (stop : CheckStop)
          → IsUnresolved (found Name span (resolved_over columns sync)) stop
          → IsRefused nesting columns (q.collect key sync rate f span) stop
      unfolding resolved
      sync_refused (Refused why) none = rw (is.resolved, ← keyed, none) refl
      sync_refused Memory none = tt

      module _ (pred : plain.Predicate) (tested : Some pred ≡ resolved_over columns sync) where
        -- or one in the rate
        pub rate_refused : (stop : CheckStop)
            → IsUnresolved (found Name span (rate_over columns rate)) stop
            → IsRefused nesting columns (q.collect key sync rate f span) stop
        unfolding resolved
        rate_refused (Refused why) none = rw (is.resolved, ← keyed, ← tested, none) refl
        rate_refused Memory none = tt

        module _ (words : Regex) (rated : Some words ≡ rate_over columns rate) where
          abbrev parts_fit : ValueType → Bool
          parts_fit ty = same_type ty type.Number
              && (have_texts columns chosen
              && (fits columns pred && list_all (fits columns) (preds_of words)))

          -- the test of what is collected, by the type that is known of it
          abbrev asked_of : ValueType → Type 0
          asked_of ty = resolved nesting columns (q.collect key sync rate f span)
              ≡ (provided Nested span (may_collect nesting) >>= (λ (nested : Unit {0}).
              provided Mismatch span (parts_fit ty) >>= (λ (typed : Unit {0}).
              Ok (collect chosen pred words (plain_of operand.query.value.shape)))))

          asked : asked_of operand.ty
          unfolding resolved
          asked =
              subst asked_of (sym is.typed.type) (rw (is.resolved, ← keyed, ← tested, ← rated) refl)

          -- no collection may stand there
          pub misplaced : may_collect nesting ≡ false
              → resolved nesting columns (q.collect key sync rate f span)
              ≡ Err (refusal Nested span)
          misplaced never = asked ∙ (rw never refl)

          module _ (may : may_collect nesting ≡ true) where
            -- what is collected is no number, or a column is of another kind than is asked of it
            pub unfit_parts : parts_fit operand.ty ≡ false
                → resolved nesting columns (q.collect key sync rate f span)
                ≡ Err (refusal Mismatch span)
            unfit_parts unfit = asked ∙ (rw (may, unfit) refl)

            module _ (fit : parts_fit operand.ty ≡ true) where
              collect_step : resolved nesting columns (q.collect key sync rate f span)
                  ≡ Ok (collect chosen pred words (plain_of operand.query.value.shape))
              collect_step = asked ∙ (rw (may, fit) refl)

              pub collect_made : (made : Typed)
                  → plain_of made.query.value.shape
                  ≡ collect chosen pred words (plain_of operand.query.value.shape)
                  → places_at made.query.value.shape ≡ with_one (places_in operand.query.value)
                  → made.query.value.span ≡ span → made.ty ≡ type.Table
                  → IsMade nesting columns (q.collect key sync rate f span) made
              collect_made made shape places at ty =
                  let inner : Qre = plain_of operand.query.value.shape in
                  let all = and_parts (same_type operand.ty type.Number)
                  (have_texts columns chosen
                  && (fits columns pred && list_all (fits columns) (preds_of words))) fit in
                  let parts = and_parts (have_texts columns chosen)
                  (fits columns pred && list_all (fits columns) (preds_of words)) all.1 in
                  let tests = and_parts (fits columns pred)
                  (list_all (fits columns) (preds_of words)) parts.1 in
                  made_of nesting columns (q.collect key sync rate f span) made
                  (collect chosen pred words inner) shape collect_step ty (
                    is.typed.keeps,
                    sym is.typed.type ∙ same_is operand.ty type.Number all.0,
                    made_inside columns f operand is,
                    key_columns_are columns (names_of key) chosen keyed parts.0,
                    tests.0,
                    tests.1,
                  )
                  (one_place f operand made.query.value span is.places places at)

-- what a collection is over its operand
module _ (nesting : Nesting) (columns : List Column) (f : q.Query) (operand : Typed)
    (is : IsMade inside columns f operand) (node : q.Query → q.Query)
    (result : Result Typed CheckStop) where
  pub inner_made : IfOk result (IsMadeOfInner nesting columns node operand)
      → IfOk result (IsMade nesting columns (node f))
  inner_made of_it =
      IfOk-weaker result (IsMadeOfInner nesting columns node operand)
      (IsMade nesting columns (node f)) (λ made over. over f is) of_it

  pub inner_refused : IfErr result (IsRefusedOverInner nesting columns node operand)
      → IfErr result (IsRefused nesting columns (node f))
  inner_refused of_it =
      IfErr-weaker result (IsRefusedOverInner nesting columns node operand)
      (IsRefused nesting columns (node f)) (λ stop over. over f is) of_it
