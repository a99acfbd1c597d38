-- For the prover. The stream of the values of a query, and answers on its fronts.
use Rattle.std.specs.Prelude.{◌≡◌, ◌<◌, ℕ, ◌+◌, List, Option, length, take}
use Rattle.std.specs.Option.{option_and, option_map}
use Rattle.std.specs.List.{filter_map}
use Rattle.value_ops.specs.declared.field.Field.{Field}
use Rattle.value_ops.specs.declared.value.Value.{Value}
use Rattle.item_schema.specs.Items.{fields_of_value}
use Rattle.rate_expr.specs.Words.{Word}
use Rattle.slow_eval.specs.Rows.{answer_at}

-- a value as an item of a stream of values
abbrev pub item_of : Value → List Field
item_of value = fields_of_value value

-- the stream of the answers, where there are any
abbrev pub stream_of : List (Option Value) → Word
stream_of answers = filter_map (option_map item_of) answers

-- at each place with a first answer, the second answer after as many items as there are first
-- answers so far
pub record IsOnStream (firsts seconds row : List (Option Value)) : Type 0 where
  pub count : length row ≡ length firsts
  pub each : (place : ℕ) → place < length firsts → answer_at row place
      ≡ option_and (answer_at firsts place)
      (answer_at seconds (length (stream_of (take (place + 1) firsts))))
