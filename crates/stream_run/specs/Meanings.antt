-- Statement. What a query file means: how items lie in lines, and the value of the query on words
-- of items.
use Rattle.std.specs.Prelude.{◌≡◌, Option}
use Rattle.value_ops.specs.declared.value.Value.{Value}
use Rattle.item_schema.specs.Layout.{Layout}
use Rattle.rate_expr.specs.Words.{Word, IsWordOf}
use Rattle.query_model.specs.Following.{IsAnswer}
use Rattle.query_model.specs.Monitors.{Monitor}

-- how the items lie in lines, and for each word a value or none
pub record Meaning : Type 0 where
  pub layout : Layout
  pub value : Word → Option Value

-- this is what the monitor means: items lie so in lines, and the value on each word of items is
-- that of the query
pub record IsMeaning (monitor : Monitor) (meaning : Meaning) : Type 0 where
  pub layout : meaning.layout ≡ monitor.layout
  pub value : (word : Word) → IsWordOf monitor.layout.columns word
      → IsAnswer monitor.query word (meaning.value word)
