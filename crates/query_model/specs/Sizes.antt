-- Statement. The limits that a query keeps: nodes, positions, slots, and the cells of each
-- of its streams.
use Rattle.std.specs.Prelude.{◌≤◌, ◌+◌, ℕ, List, [], ◌∷◌, ◌++◌}
use Rattle.language_base.specs.Limits.{max_cells, max_nodes, max_positions}
use Rattle.item_schema.specs.declared.column.Column.{Column}
use Rattle.predicate_cells.specs.Cells.{count_from}
use Rattle.predicates.specs.Predicates.{Predicate}
use Rattle.rate_expr.specs.Rates.{preds_of, size_of}
use Rattle.query_model.specs.Bounds.{nodes_of, slots_of}
use Rattle.query_model.specs.Queries.{Qre, atom, eps, choice, split, iter, combine, apply, compose}
use Rattle.query_model.specs.Queries.{collect}
use Rattle.query_model.specs.QueryTypes.{derived_columns, type_of}
use Rattle.query_model.specs.Rates.{rate_of}

-- what is kept for a query, at the most
abbrev pub max_slots : ℕ
max_slots = 1048576

-- the predicates on the items of the query's own stream; the right operand of a compose has another
abbrev pub predicates_of : Qre → List Predicate
predicates_of (atom pred expression) = pred ∷ []
predicates_of (eps number) = []
predicates_of (choice f g) = predicates_of f ++ predicates_of g
predicates_of (split f g expression) = predicates_of f ++ predicates_of g
predicates_of (iter f number expression) = predicates_of f
predicates_of (combine f g expression) = predicates_of f ++ predicates_of g
predicates_of (apply f expression) = predicates_of f
predicates_of (compose f g) = predicates_of f
predicates_of (collect chosen sync rate f) = sync ∷ preds_of rate ++ predicates_of f

-- the predicates of a query distinguish few items of its stream
abbrev pub HasFewCells : List Column → Qre → Type 0
HasFewCells columns query = count_from 0 columns (predicates_of query) ≤ max_cells

-- and so on each stream of values inside of it
abbrev pub HaveFewCells : List Column → Qre → Type 0
HaveFewCells columns (atom pred expression) = Unit {0}
HaveFewCells columns (eps number) = Unit {0}
HaveFewCells columns (choice f g) = HaveFewCells columns f × HaveFewCells columns g
HaveFewCells columns (split f g expression) = HaveFewCells columns f × HaveFewCells columns g
HaveFewCells columns (iter f number expression) = HaveFewCells columns f
HaveFewCells columns (combine f g expression) = HaveFewCells columns f × HaveFewCells columns g
HaveFewCells columns (apply f expression) = HaveFewCells columns f
HaveFewCells columns (compose f g) =
    HaveFewCells columns f × HasFewCells (derived_columns (type_of columns f)) g
    × HaveFewCells (derived_columns (type_of columns f)) g
HaveFewCells columns (collect chosen sync rate f) = HaveFewCells columns f

-- the rate of each node has few positions
abbrev pub HasFewPositions : Qre → Type 0
HasFewPositions (atom pred expression) = Unit {0}
HasFewPositions (eps number) = Unit {0}
HasFewPositions (choice f g) =
    HasFewPositions f × HasFewPositions g
    × (size_of (rate_of f) + size_of (rate_of g) ≤ max_positions)
HasFewPositions (split f g expression) =
    HasFewPositions f × HasFewPositions g
    × (size_of (rate_of f) + size_of (rate_of g) ≤ max_positions)
HasFewPositions (iter f number expression) = HasFewPositions f
HasFewPositions (combine f g expression) = HasFewPositions f × HasFewPositions g
HasFewPositions (apply f expression) = HasFewPositions f
HasFewPositions (compose f g) = HasFewPositions f × HasFewPositions g
HasFewPositions (collect chosen sync rate f) = HasFewPositions f × (size_of rate ≤ max_positions)

-- the limits, at every node
pub record IsSmall (columns : List Column) (query : Qre) : Type 0 where
  pub nodes : nodes_of query ≤ max_nodes
  pub positions : HasFewPositions query
  pub slots : slots_of query ≤ max_slots
  pub cells : HasFewCells columns query
  pub derived : HaveFewCells columns query
