-- For the prover. When a node of a query can be put back.
use Rattle.std.specs.Prelude.{◌≤◌, Option, None}
use Rattle.predicate_cells.specs.Cells.{Partition}
use Rattle.query_model.specs.Bounds.{inner_of}
use Rattle.query_model.specs.Queries.{Qre, atom, eps, choice, split, iter, combine, apply, compose}
use Rattle.query_model.specs.Queries.{collect}
use Rattle.query_model.specs.Sizes.{max_slots}
use Rattle.eval_nodes.specs.Streams.{CanReadWith}

-- The cells can read the rate of each collect. Runners have no cells, neither those of a compose
-- nor those of a collect, so their queries have no collect.
abbrev pub AreCellsFor : Option Partition → Qre → Type 0
AreCellsFor cells (atom pred expression) = Unit {0}
AreCellsFor cells (eps number) = Unit {0}
AreCellsFor cells (choice f g) = AreCellsFor cells f × AreCellsFor cells g
AreCellsFor cells (split f g expression) = AreCellsFor cells f × AreCellsFor cells g
AreCellsFor cells (iter f number expression) = AreCellsFor cells f
AreCellsFor cells (combine f g expression) = AreCellsFor cells f × AreCellsFor cells g
AreCellsFor cells (apply f expression) = AreCellsFor cells f
AreCellsFor cells (compose f g) = AreCellsFor cells f × AreCellsFor None g
AreCellsFor cells (collect chosen sync rate f) = CanReadWith cells rate × AreCellsFor None f

-- and a node of the query does not keep too much
pub record CanBePutBack (partition : Option Partition) (query : Qre) : Type 0 where
  pub cells : AreCellsFor partition query
  pub small : inner_of query ≤ max_slots
