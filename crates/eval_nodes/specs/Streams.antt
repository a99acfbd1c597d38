-- Statement. With which cells a node can be made, and on which streams it then runs.
use Rattle.std.specs.Prelude.{◌≡◌, ◌≤◌, List, Option, MatchOption, None}
use Rattle.std.specs.List.{AllByRecursion, Contains}
use Rattle.language_base.specs.Limits.{max_positions}
use Rattle.item_schema.specs.declared.column.Column.{Column}
use Rattle.predicate_cells.specs.Cells.{Partition}
use Rattle.rate_expr.specs.Rates.{Regex, preds_of, size_of}
use Rattle.query_model.specs.Queries.{Qre, atom, eps, choice, split, iter, combine, apply, compose}
use Rattle.query_model.specs.Queries.{collect}

-- the rate does not have too many positions, and its predicates distinguish the cells
pub record CanRead (cells : Partition) (rate : Regex) : Type 0 where
  pub few : size_of rate ≤ max_positions
  pub decided : AllByRecursion (λ pred. Contains cells.preds pred) (preds_of rate)

-- there are cells, and they can read the rate
abbrev pub CanReadWith : Option Partition → Regex → Type 0
CanReadWith cells rate = MatchOption cells ⊥ (λ found. CanRead found rate)

-- The cells can read the rate of each collect. Runners have no cells, so their queries have no
-- collect.
abbrev pub CanBeMade : Option Partition → Qre → Type 0
CanBeMade cells (atom pred expression) = Unit {0}
CanBeMade cells (eps number) = Unit {0}
CanBeMade cells (choice f g) = CanBeMade cells f × CanBeMade cells g
CanBeMade cells (split f g expression) = CanBeMade cells f × CanBeMade cells g
CanBeMade cells (iter f number expression) = CanBeMade cells f
CanBeMade cells (combine f g expression) = CanBeMade cells f × CanBeMade cells g
CanBeMade cells (apply f expression) = CanBeMade cells f
CanBeMade cells (compose f g) = CanBeMade cells f × CanBeMade None g
CanBeMade cells (collect chosen sync rate f) = CanReadWith cells rate

-- these are the columns of the cells; any are, if there are no cells
abbrev pub AreColumnsOf : Option Partition → List Column → Type 0
AreColumnsOf cells columns =
    MatchOption cells (Unit {0}) (λ found. found.layout.columns ≡ columns)
