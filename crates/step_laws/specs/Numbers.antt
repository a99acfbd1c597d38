-- Statement. Number queries: none of their values is a table, and nothing that is kept for one
-- grows. So once its node is made, no call is out of memory.
use Rattle.std.specs.Prelude.{◌≡◌, ℕ, List, Option}
use Rattle.std.specs.List.{AllByRecursion}
use Rattle.value_ops.specs.declared.field.Field.{Field}
use Rattle.item_schema.specs.declared.column.Column.{Column}
use Rattle.item_schema.specs.declared.column.Kind.TheVariants.{Table}
use Rattle.query_model.specs.Queries.{Qre}
use Rattle.query_model.specs.Rules.{HasNoCollect}
use Rattle.compose_eval.specs.Followers.{Contents}
use Rattle.eval_nodes.specs.Holdings.{Holding, Seen}
use Rattle.step_laws.specs.declared.hit.Hit.{Hit}
use Rattle.step_laws.specs.Feeds.{CanBegin, CanCarry, CanFeed, CanPassOn}
use Rattle.step_laws.specs.Steps.{CanStart, CanStep}

-- no item has a table
abbrev pub HasNoTables : List Column → Type 0
HasNoTables columns = AllByRecursion (λ column. column.kind ≡ Table → ⊥) columns

-- the query has no collect, and is on a stream without tables
pub record IsNumberQuery (columns : List Column) (query : Qre) : Type 0 where
  pub no_collect : HasNoCollect query
  pub no_tables : HasNoTables columns

-- the calls that a number query allows
module _ {R : Type 0} (seen : R → Seen R) where
  abbrev pub StartsNumbers : Qre → Holding R → ℕ → Type 0
  StartsNumbers query old at =
      (can : CanStart seen query old at) × IsNumberQuery can.columns query

  abbrev pub StepsNumbers : Qre → Holding R → ℕ → List Field → Type 0
  StepsNumbers query old now item =
      (can : CanStep seen query old now item) × IsNumberQuery can.columns query

  abbrev pub CarriesNumbers : Qre → R → List Field → Type 0
  CarriesNumbers query runner item =
      (can : CanCarry seen query runner item) × IsNumberQuery can.columns query

  abbrev pub BeginsNumbers : Qre → R → Option Hit → Type 0
  BeginsNumbers query runner left =
      (can : CanBegin seen query runner left) × IsNumberQuery can.columns query

  abbrev pub PassesNumbers : Qre → Contents R → Option Hit → Type 0
  PassesNumbers query held left =
      (can : CanPassOn seen query held left) × IsNumberQuery can.columns query

  abbrev pub FeedsNumbers : Qre → Contents R → Option Hit → Type 0
  FeedsNumbers query held left =
      (can : CanFeed seen query held left) × IsNumberQuery can.columns query
