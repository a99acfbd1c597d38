-- Which collects have keys.
use Rattle.std.proofs.Common.{◌∙◌, ℕ, List, [], subst, ap}
use Rattle.value_ops.specs.declared.value.Value.TheVariants.{Table}
use Rattle.item_schema.specs.declared.column.Column.{Column}
use Rattle.predicates.specs.Predicates.{Predicate}
use Rattle.rate_expr.specs.Rates.{Regex}
use Rattle.query_model.specs.Denotation.{AreEntries, Den, projection}
use Rattle.query_model.specs.Queries.{Qre, collect}
use Rattle.query_model.specs.Rules.{Standing, IsClear}
use Rattle.empty_tables.specs.EmptyTables.{HasKeys, StaysEmpty}
use Rattle.empty_tables.specs.OwnItems.{HaveOwnItem}
use Rattle.empty_tables.proofs.Keys.{key_of_member, no_keys}
use Rattle.empty_tables.proofs.OwnWords.{all_every, own_word}

module _ (columns : List Column) (chosen : List ℕ) (sync : Predicate) (rate : Regex) (f : Qre) where
  -- without an item that is not every key's there is no key
  pub stays_empty : (HaveOwnItem columns sync rate → ⊥)
      → StaysEmpty columns (collect chosen sync rate f)
  stays_empty none word value is (entries, in_rate, are, same) =
      let keys = no_keys chosen sync [] word (all_every columns sync rate word none is in_rate) in
      same ∙ ap Table (subst (λ (ks : List (List ℕ)).
      AreEntries (λ key value. Den f (projection chosen sync key word) value) ks entries) keys are)

  -- with one there is
  pub takes_keys : (standing : Standing) → IsClear standing columns (collect chosen sync rate f)
      → HaveOwnItem columns sync rate → HasKeys columns chosen sync rate
  takes_keys standing clear own =
      let found = own_word columns sync rate clear.5 own in
      record {
        word = found.0;
        items = found.1;
        in_rate = found.2;
        keys = key_of_member chosen sync [] found.0 found.3 found.4 found.5;
      }
