-- Statement. What a query file asks for.
use Rattle.item_schema.specs.Layout.{Layout}
use Rattle.query_model.specs.Checked.{CheckedQuery}
use Rattle.query_model.specs.Queries.{Qre, plain_of}

-- how the items lie in lines, and the query on all of them
pub record Monitor : Type 0 where
  pub layout : Layout
  pub query : Qre

-- that of a query in memory
abbrev pub monitor_of : CheckedQuery → Monitor
monitor_of on = record { layout = on.layout; query = plain_of on.main.shape }
