-- A new node, as one of the query that was asked for.
use Rattle.std.proofs.Common.{◌≡◌, ◌∙◌, [], List, Option, Result, Ok, Err, ap, refl}
use Rattle.std.specs.Prelude.{IfOk}
use Rattle.std.specs.declared.alloc.AllocError.{AllocError}
use Rattle.item_schema.specs.declared.column.Column.{Column}
use Rattle.predicate_cells.specs.Cells.{Partition}
use Rattle.query_model.specs.Queries.{Qre}
use Rattle.eval_nodes.specs.declared.node.Node.{Node}
use Rattle.eval_nodes.specs.NewNodes.{IsNewNode}
use Rattle.eval_nodes.specs.Plain.{holding_of, seen_of}
use Rattle.eval_nodes.specs.Represents.{Represents}
use Rattle.eval_nodes.specs.Sound.{IsSound}
use Rattle.eval_nodes.specs.Streams.{AreColumnsOf}
use Rattle.eval_nodes.proofs.Made.{made_as}
use Rattle.eval_nodes.proofs.MadeFed.{made_soundly_as}

-- queries of the same two operands
pub of_both : (op : Qre → Qre → Qre) (f f' g g' : Qre) → f ≡ f' → g ≡ g' → op f g ≡ op f' g'
of_both op f f' g g' first second = ap (λ x. op x g) first ∙ ap (λ y. op f' y) second

module _ (cells : Option Partition) (q q' : Qre) (P : Node → Type 0)
    (each : (node : Node) → P node → IsNewNode seen_of cells q (holding_of node.state))
    (same : q' ≡ q) where
  pub new_word : (result : Result Node AllocError) → IfOk result P
      → IfOk result (λ node. (columns : List Column)
      → AreColumnsOf cells columns → Represents seen_of columns q' (holding_of node.state) [] [])
  new_word (Ok node) is =
      λ columns on. made_as seen_of columns q q' _ _ same refl ((each node is).word columns on)
  new_word (Err e) is = tt

  pub new_sound : (result : Result Node AllocError) → IfOk result P
      → IfOk result (λ node. (columns : List Column)
      → AreColumnsOf cells columns → IsSound seen_of columns q' 0 (holding_of node.state))
  new_sound (Ok node) is = λ columns on.
      made_soundly_as seen_of columns q q' _ _ same refl ((each node is).sound columns on)
  new_sound (Err e) is = tt
