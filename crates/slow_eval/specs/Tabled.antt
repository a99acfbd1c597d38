-- For the prover. The tables that the answers for keys make.
use Rattle.std.specs.Prelude.{◌≡◌, ◌≤◌, ◌<◌, ℕ, ◌+◌, Bool, false, List, Option, None, Some}
use Rattle.std.specs.Prelude.{if◌then◌else◌, length, map, slice_index, slice_index_or, take}
use Rattle.std.specs.List.{AllByRecursion, filter_map}
use Rattle.value_ops.specs.declared.scalar.Scalar.{Scalar}
use Rattle.value_ops.specs.declared.value.Value.{Value}
use Rattle.value_ops.specs.declared.value.Value.TheVariants as value
use Rattle.predicates.specs.Predicates.{Predicate}
use Rattle.rate_expr.specs.Words.{Word}
use Rattle.query_model.specs.Denotation.{projection}
use Rattle.query_model.specs.Following.{IsAnswer}
use Rattle.query_model.specs.Queries.{Qre}
use Rattle.slow_eval.specs.declared.keyed_answers.Keyed.{Keyed}
use Rattle.slow_eval.specs.Rows.{answer_at}

-- an answer of the query on the items that each front of the word has for the key
pub record IsKeyed (query : Qre) (chosen : List ℕ) (sync : Predicate) (word : Word)
    (one : Keyed) : Type 0 where
  pub count : length one.answers.items ≡ length word + 1
  pub each : (place : ℕ) → place ≤ length word
      → IsAnswer query (projection chosen sync one.key (take place word))
      (answer_at one.answers.items place)

-- the scalar that the answer is, if it is one
abbrev pub scalar_of : Option Value → Option Scalar
scalar_of None = None
scalar_of (Some (value.Scalar scalar)) = Some scalar
scalar_of (Some (value.Rec parts)) = None
scalar_of (Some (value.Table entries)) = None

-- the entry of the key, if its answer is a scalar
abbrev pub entry_with : List ℕ → Option Value → Option (List ℕ × Scalar)
entry_with key None = None
entry_with key (Some (value.Scalar scalar)) = Some (key, scalar)
entry_with key (Some (value.Rec parts)) = None
entry_with key (Some (value.Table entries)) = None

-- the entries of the keys that have a scalar at the place
abbrev pub entries_at : ℕ → List Keyed → List (List ℕ × Scalar)
entries_at place all =
    filter_map (λ (one : Keyed). entry_with one.key (answer_at one.answers.items place)) all

-- the keys
abbrev pub keys_in : List Keyed → List (List ℕ)
keys_in all = map (λ (one : Keyed). one.key) all

-- each key has an answer at the place
abbrev pub HaveAnswersAt : ℕ → List Keyed → Type 0
HaveAnswersAt place all = AllByRecursion (λ (one : Keyed). place < length one.answers.items) all

-- at each place whose front is in the rate, the table of the keys that have appeared, and no answer
-- at any other
pub record AreTables (in_rate : List Bool) (counts : List ℕ) (all : List Keyed)
    (row : List (Option Value)) : Type 0 where
  pub count : length row ≡ length in_rate
  pub each : (place : ℕ) → place < length in_rate → answer_at row place
      ≡ (if slice_index_or in_rate place false
      then Some (value.Table (entries_at place (take (slice_index counts place) all))) else None)
