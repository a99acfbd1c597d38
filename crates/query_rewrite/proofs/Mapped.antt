-- Where two queries have the same values, so do folds, outputs and tables that are made of them.
use Rattle.std.proofs.Common.{◌↔◌, ℕ, ◌++◌, List, [], ◌∷◌, inl, inr}
use Rattle.std.specs.List.{AllByRecursion}
use Rattle.value_ops.specs.declared.scalar.Scalar.{Scalar}
use Rattle.value_ops.specs.declared.value.Value.{Value}
use Rattle.value_ops.specs.declared.value.Value.TheVariants as value
use Rattle.expressions.specs.Expressions.{Expression}
use Rattle.item_schema.specs.declared.column.Column.{Column}
use Rattle.rate_expr.specs.Words.{Word, IsWordOf, join}
use Rattle.rate_expr.proofs.Wording.{word_parts, word_more}
use Rattle.query_model.specs.Denotation.{AreEntries, Emits, Folds, Outputs}

-- they have the same values on words of the stream
abbrev pub HaveSameValues : List Column → (Word → Value → Type 0) → (Word → Value → Type 0) → Type 0
HaveSameValues columns D E = (word : Word) (v : Value) → IsWordOf columns word → D word v ↔ E word v

-- the other way round
pub turned_round : (columns : List Column) (D E : Word → Value → Type 0)
    → HaveSameValues columns D E → HaveSameValues columns E D
turned_round columns D E same word v is = ((same word v is).1, (same word v is).0)

-- what holds of each holds of each where it follows
pub all_mapped : {A : Type 0} (P Q : A → Type 0) → ((x : A) → P x → Q x) → (xs : List A)
    → AllByRecursion P xs → AllByRecursion Q xs
all_mapped P Q each [] all = tt
all_mapped P Q each (x ∷ xs) all = (each x all.0, all_mapped P Q each xs all.1)

module _ (columns : List Column) (D E : Word → Value → Type 0) (same : HaveSameValues columns D E)
  where
    pub folds_mapped : (expression : Expression) (so_far : Value) (pieces : List Word) (v : Value)
        → IsWordOf columns (join pieces) → Folds D expression so_far pieces v
        → Folds E expression so_far pieces v
    folds_mapped expression so_far [] v is folds = folds
    folds_mapped expression so_far (piece ∷ pieces) v is (last, next, den, gives, folds) =
        let parts = word_parts columns piece (join pieces) is in (
          last,
          next,
          (same piece last parts.0).0 den,
          gives,
          folds_mapped expression next pieces v parts.1 folds,
        )

    emits_mapped : (word items : Word) → IsWordOf columns word → Emits D word items
        → Emits E word items
    emits_mapped word items is (inl (v, den, whole)) = inl (v, (same word v is).0 den, whole)
    emits_mapped word items is (inr (none, empty)) =
        inr ((λ v den. none v ((same word v is).1 den)), empty)

    pub outputs_mapped : (before word items : Word) → IsWordOf columns before
        → IsWordOf columns word
        → Outputs D before word items → Outputs E before word items
    outputs_mapped before [] items is rest emits = emits_mapped before items is emits
    outputs_mapped before (item ∷ word) items is rest (first, others, emits, outputs, whole) = (
      first,
      others,
      emits_mapped before first is emits,
      outputs_mapped (before ++ item ∷ []) word others (word_more columns before item is rest.0)
          rest.1 outputs,
      whole,
    )

pub entries_mapped : (D E : List ℕ → Value → Type 0)
    → ((key : List ℕ) (v : Value) → D key v ↔ E key v)
    → (keys : List (List ℕ)) (entries : List (List ℕ × Scalar)) → AreEntries D keys entries
    → AreEntries E keys entries
entries_mapped D E same [] entries are = are
entries_mapped D E same (key ∷ keys) entries (inl (scalar, others, den, rest, whole)) =
    inl (
      scalar,
      others,
      (same key (value.Scalar scalar)).0 den,
      entries_mapped D E same keys others rest,
      whole,
    )
entries_mapped D E same (key ∷ keys) entries (inr (none, rest)) =
    inr ((λ v den. none v ((same key v).1 den)), entries_mapped D E same keys entries rest)
