-- Statement. A query that keeps the rules, on the stream that it was made for.
use Rattle.std.specs.Prelude.{IsTrue}
use Rattle.std.specs.List.{list_all}
use Rattle.item_schema.specs.Layout.{Layout, is_read}
use Rattle.query_model.specs.declared.query.Query.{Query}
use Rattle.query_model.specs.Queries.{plain_of}
use Rattle.query_model.specs.Rules.{free, IsClear}
use Rattle.query_model.specs.Sizes.{IsSmall}

-- what a `Checked` has: a stream, and a query on its items
pub record CheckedQuery : Type 0 where
  pub layout : Layout
  pub main : Query

-- the stream's columns are read from lines, and the rules and limits hold
pub record IsChecked (on : CheckedQuery) : Type 0 where
  pub read : IsTrue (list_all (λ column. is_read column.kind) on.layout.columns)
  pub clear : IsClear free on.layout.columns (plain_of on.main.shape)
  pub small : IsSmall on.layout.columns (plain_of on.main.shape)
