-- The values on the prefixes of a word, as they are fed: with one more item there is one more
-- value, or none.
use Rattle.std.proofs.Common.{◌≡◌, ◌∙◌, List, [], ◌∷◌, ◌++◌, Option, Some, None, refl, sym, ap}
use Rattle.std.proofs.Common.{subst, append_assoc, append-nil, inl, inr}
use Rattle.value_ops.specs.declared.field.Field.{Field}
use Rattle.value_ops.specs.declared.value.Value.{Value}
use Rattle.value_ops.specs.declared.value.ValueType.{ValueType}
use Rattle.item_schema.specs.declared.column.Column.{Column}
use Rattle.rate_expr.specs.Words.{Word, IsWordOf}
use Rattle.query_model.specs.Denotation.{Den, Emits, Outputs}
use Rattle.query_model.specs.Queries.{Qre}
use Rattle.query_model.specs.QueryTypes.{derived_columns, type_of}
use Rattle.query_model.specs.Rules.{Standing, IsClear}
use Rattle.query_model.proofs.DerivedItems.{derived_item}
use Rattle.query_model.proofs.Typed.{den_typed, outputs_word}
use Rattle.query_model.proofs.Unique.{one_value, outputs_one}
use Rattle.step_laws.specs.declared.hit.Hit.{Hit}
use Rattle.step_laws.specs.Feeds.{IsHitIn, item_of}
use Rattle.step_laws.specs.Steps.{IsHitOf}

module _ (D : Word → Value → Type 0) where
  -- what comes out on one more item comes after what came out before
  pub outputs_more : (before word : Word) (item : List Field) (out last : Word)
      → Outputs D before word out → Emits D (before ++ (word ++ item ∷ [])) last
      → Outputs D before (word ++ item ∷ []) (out ++ last)
  outputs_more before [] item out last outputs emits = (out, last, outputs, emits, refl)
  outputs_more before (x ∷ word) item out last (first, others, begins, outputs, whole) emits = (
    first,
    others ++ last,
    begins,
    outputs_more (before ++ x ∷ []) word item others last outputs
        (subst (λ (u : Word). Emits D u last)
        (sym (append_assoc before (x ∷ []) (word ++ item ∷ []))) emits),
    ap (λ (u : Word). u ++ last) whole ∙ append_assoc first others last,
  )

  -- a value comes out, or none does
  pub one_comes : (word : Word) (item : List Field) (out : Word) (v : Value) → Outputs D [] word out
      → D (word ++ item ∷ []) v → Outputs D [] (word ++ item ∷ []) (out ++ item_of v ∷ [])
  one_comes word item out v outputs den =
      outputs_more [] word item out (item_of v ∷ []) outputs (inl (v, den, refl))

  pub none_comes : (word : Word) (item : List Field) (out : Word) → Outputs D [] word out
      → ((v : Value) → D (word ++ item ∷ []) v → ⊥) → Outputs D [] (word ++ item ∷ []) out
  none_comes word item out outputs none =
      subst (Outputs D [] (word ++ item ∷ [])) (append-nil out)
      (outputs_more [] word item out [] outputs (inr (none, refl)))

pub hit_item : (ty : ValueType) (hit : Option Hit) → IsHitOf ty hit
    → IsHitIn (derived_columns ty) hit
hit_item ty None is = tt
hit_item ty (Some found) is = derived_item ty found.value is

module _ (standing : Standing) (columns : List Column) (f : Qre)
    (clear : IsClear standing columns f) where
  -- what comes out is a word of the stream of values, and there is one
  pub out_word : (word out : Word) → IsWordOf columns word → Outputs (Den f) [] word out
      → IsWordOf (derived_columns (type_of columns f)) out
  out_word word out is outputs =
      outputs_word columns (type_of columns f) (Den f)
      (λ part last part_is den. den_typed standing columns f part last clear part_is den) [] word
      out tt is outputs

  pub out_one : (word out other : Word) → IsWordOf columns word → Outputs (Den f) [] word out
      → Outputs (Den f) [] word other → out ≡ other
  out_one word out other is outputs others =
      outputs_one columns (Den f)
      (λ part a b part_is den den'. one_value standing columns f part a b clear part_is den den')
      [] word out other tt is outputs others
