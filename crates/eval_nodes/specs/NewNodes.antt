-- For the prover. When a node can be made of those of its operands, and what a new node is.
use Rattle.std.specs.Prelude.{◌≤◌, List, [], Option}
use Rattle.item_schema.specs.declared.column.Column.{Column}
use Rattle.predicate_cells.specs.Cells.{Partition}
use Rattle.query_model.specs.Bounds.{inner_of}
use Rattle.query_model.specs.Queries.{Qre}
use Rattle.query_model.specs.Sizes.{max_slots}
use Rattle.eval_nodes.specs.Holdings.{Holding, Seen}
use Rattle.eval_nodes.specs.Represents.{Represents}
use Rattle.eval_nodes.specs.Sound.{IsSound}
use Rattle.eval_nodes.specs.Streams.{AreColumnsOf, CanBeMade}

-- there are cells for its collects, and a node of the query does not keep too much
pub record CanBeNew (partition : Option Partition) (query : Qre) : Type 0 where
  pub cells : CanBeMade partition query
  pub small : inner_of query ≤ max_slots

-- on streams of these cells it is sound, and it stands for the empty word without a start
pub record IsNewNode {R : Type 0} (seen : R → Seen R) (cells : Option Partition) (query : Qre)
    (node : Holding R) : Type 0 where
  pub word : (columns : List Column) → AreColumnsOf cells columns
      → Represents seen columns query node [] []
  pub sound : (columns : List Column) → AreColumnsOf cells columns
      → IsSound seen columns query 0 node
