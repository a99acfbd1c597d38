-- For the prover. Items that meet predicates and are not every key's.
use Rattle.std.specs.Prelude.{◌≡◌, ◌⊎◌, true, false, List}
use Rattle.std.specs.List.{Contains}
use Rattle.value_ops.specs.declared.field.Field.{Field}
use Rattle.item_schema.specs.Items.{IsItemOf}
use Rattle.item_schema.specs.declared.column.Column.{Column}
use Rattle.predicate_cells.specs.Cells.{Partition}
use Rattle.predicates.specs.Predicates.{Predicate}
use Rattle.predicates.specs.Truth.{holds}
use Rattle.rate_expr.specs.Rates as rate
use Rattle.rate_expr.specs.Rates.{Regex}
use Rattle.query_model.specs.Queries.{Qre, atom, eps, choice, split, iter, combine, apply, compose}
use Rattle.query_model.specs.Queries.{collect}
use Rattle.query_model.specs.Rules.{Standing, IsClear}

-- some item meets the predicate, and not that of every key's items
pub record HasOwnItem (columns : List Column) (sync pred : Predicate) : Type 0 where
  pub item : List Field
  pub is_item : IsItemOf columns item
  pub meets : holds pred item ≡ true
  pub own : holds sync item ≡ false

-- some item meets a predicate of the rate, and not that of every key's items
abbrev pub HaveOwnItem : List Column → Predicate → Regex → Type 0
HaveOwnItem columns sync rate.empty = ⊥
HaveOwnItem columns sync (rate.one pred) = HasOwnItem columns sync pred
HaveOwnItem columns sync (rate.sequence left right) =
    HaveOwnItem columns sync left ⊎ HaveOwnItem columns sync right
HaveOwnItem columns sync (rate.choice left right) =
    HaveOwnItem columns sync left ⊎ HaveOwnItem columns sync right
HaveOwnItem columns sync (rate.star inner) = HaveOwnItem columns sync inner

-- the predicates of the rate are among those that can be asked
abbrev pub AreAskedIn : List Predicate → Regex → Type 0
AreAskedIn asked rate.empty = Unit {0}
AreAskedIn asked (rate.one pred) = Contains asked pred
AreAskedIn asked (rate.sequence left right) = AreAskedIn asked left × AreAskedIn asked right
AreAskedIn asked (rate.choice left right) = AreAskedIn asked left × AreAskedIn asked right
AreAskedIn asked (rate.star inner) = AreAskedIn asked inner

-- and so are those by which the collects of a query take items of its stream
abbrev pub AreAsked : List Predicate → Qre → Type 0
AreAsked asked (atom pred expression) = Unit {0}
AreAsked asked (eps number) = Unit {0}
AreAsked asked (choice f g) = AreAsked asked f × AreAsked asked g
AreAsked asked (split f g expression) = AreAsked asked f × AreAsked asked g
AreAsked asked (iter f number expression) = AreAsked asked f
AreAsked asked (combine f g expression) = AreAsked asked f × AreAsked asked g
AreAsked asked (apply f expression) = AreAsked asked f
AreAsked asked (compose f g) = AreAsked asked f
AreAsked asked (collect chosen sync rate f) = Contains asked sync × AreAskedIn asked rate

-- the query keeps the rules, and the cells are those of predicates that its collects ask
pub record CanBeAsked (cells : Partition) (query : Qre) : Type 0 where
  pub standing : Standing
  pub clear : IsClear standing cells.layout.columns query
  pub asked : AreAsked cells.preds query
