-- Where a hit says that the left operand has a value from its start, from no other
-- start it has one.
use Rattle.std.proofs.Common.{◌≡◌, ℕ, List, [], ◌∷◌, ◌++◌, Some, drop, sym, subst, append_assoc}
use Rattle.std.proofs.Common.{append-nil}
use Rattle.std.specs.List.{Contains}
use Rattle.value_ops.specs.declared.field.Field.{Field}
use Rattle.value_ops.specs.declared.value.Value.{Value}
use Rattle.item_schema.specs.declared.column.Column.{Column}
use Rattle.rate_expr.specs.Language.{In}
use Rattle.rate_expr.specs.Rates as rate
use Rattle.rate_expr.specs.Readings.{HasExtension}
use Rattle.rate_expr.specs.Words.{Word, IsWordOf}
use Rattle.query_model.specs.Denotation.{Den}
use Rattle.query_model.specs.Queries.{Qre}
use Rattle.query_model.specs.Rates.{rate_of}
use Rattle.query_model.specs.Rules.{Standing, IsClear}
use Rattle.query_model.proofs.InRates.{den_in}
use Rattle.eval_nodes.specs.Starts.{AreApart}
use Rattle.eval_nodes.proofs.Pieces.{word_after}
use Rattle.step_laws.specs.declared.hit.Hit.{Hit}
use Rattle.step_laws.specs.Steps.{IsHit}

-- what continues after an item continues before it
pub extension_before : (columns : List Column) (r : rate.Regex) (word : Word) (item : List Field)
    → IsWordOf columns (item ∷ []) → HasExtension columns r (word ++ item ∷ [])
    → HasExtension columns r word
extension_before columns r word item is (next, more, more_is, in_rate) = (
  item,
  next ∷ more,
  (is.0, more_is),
  subst (In r) (append_assoc word (item ∷ []) (next ∷ more)) in_rate,
)

module _ (standing : Standing) (columns : List Column) (f : Qre)
    (clear : IsClear standing columns f) (word : Word) (starts : List ℕ)
    (is : IsWordOf columns word) (apart : AreApart columns f word starts) where
  whole_in : (start : ℕ) (v : Value) → Den f (drop start word) v
      → In (rate_of f) (drop start word ++ [])
  whole_in start v den =
      subst (In (rate_of f)) (sym (append-nil (drop start word)))
      (den_in standing columns f (drop start word) v clear (word_after columns word start is) den)

  -- a value from a start is that of the hit
  pub hit_start : (found : Hit) → IsHit (Den f) word starts (Some found) → (start : ℕ) (v : Value)
      → Contains starts start → Den f (drop start word) v → start ≡ found.start
  hit_start found hit start v there den =
      apart start found.start [] tt there hit.sound.0 (whole_in start v den)
      (whole_in found.start found.value hit.sound.1)

  pub quiet : (found : Hit) → IsHit (Den f) word starts (Some found) → (start : ℕ)
      → Contains starts start → (start ≡ found.start → ⊥) → (v : Value)
      → Den f (drop start word) v → ⊥
  quiet found hit start there differs v den = differs (hit_start found hit start v there den)
