-- For the prover. The keys that have appeared in the fronts of a word, and the answers on the items
-- of a key.
use Rattle.std.specs.Prelude.{◌≡◌, ◌≤◌, ℕ, ◌+◌, List, [], Option, length, slice_index, take}
use Rattle.value_ops.specs.declared.value.Value.{Value}
use Rattle.predicates.specs.Predicates.{Predicate}
use Rattle.rate_expr.specs.Words.{Word}
use Rattle.query_model.specs.Denotation.{keys_after, projection}
use Rattle.slow_eval.specs.Rows.{answer_at}

-- the keys of the word, and how many of them have appeared in each front
pub record AreKeysOf (chosen : List ℕ) (sync : Predicate) (word : Word) (keys : List (List ℕ))
    (counts : List ℕ) : Type 0 where
  pub whole : keys ≡ keys_after chosen sync [] word
  pub count : length counts ≡ length word + 1
  pub within : (place : ℕ) → place ≤ length word → slice_index counts place ≤ length keys
  pub each : (place : ℕ) → place ≤ length word
      → keys_after chosen sync [] (take place word) ≡ take (slice_index counts place) keys

-- on each front, the answer on as many items as it has for the key
pub record IsOnItems (chosen : List ℕ) (sync : Predicate) (key : List ℕ) (word : Word)
    (answers row : List (Option Value)) : Type 0 where
  pub count : length row ≡ length word + 1
  pub each : (place : ℕ) → place ≤ length word → answer_at row place
      ≡ answer_at answers (length (projection chosen sync key (take place word)))
