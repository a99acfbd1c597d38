-- Statement. What it means that a start is live in a node.
use Rattle.std.specs.Prelude.{◌↔◌, ℕ, Bool, IsTrue, List}
use Rattle.item_schema.specs.declared.column.Column.{Column}
use Rattle.rate_expr.specs.Words.{Word, IsWordOf}
use Rattle.query_model.specs.Queries.{Qre}
use Rattle.query_model.specs.Rules.{Standing, IsClear}
use Rattle.eval_nodes.specs.Holdings.{Holding, Seen}
use Rattle.eval_nodes.specs.Represents.{Represents}
use Rattle.eval_nodes.specs.Starts.{ArePositions, IsLive}

module _ {R : Type 0} (seen : R → Seen R) where
  -- if the node stands for a word and starts, exactly the live ones among these are live in it
  abbrev pub Lives : Qre → Holding R → ℕ → Bool → Type 0
  Lives query holding start live = (standing : Standing) (columns : List Column) (word : Word)
      (starts : List ℕ) → IsClear standing columns query → IsWordOf columns word
      → ArePositions word starts → Represents seen columns query holding word starts
      → IsTrue live ↔ IsLive columns query word starts start
