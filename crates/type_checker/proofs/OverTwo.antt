-- A query over two operands: what is found of its root, from the nodes and the automata
-- of the operands.
use Rattle.std.proofs.Common.{None, Result, IfErr, IfOk, OnOk}
use Rattle.predicate_cells.specs.Cells.{Partition}
use Rattle.query_model.specs.Queries.{Qre}
use Rattle.query_model.specs.Rules.{Standing}
use Rattle.rate_expr.specs.Sets.{Sets}
use Rattle.type_checker.specs.Breaches.{AreOperands, IsBrokenAt, IsBrokenBy, IsKept, operand_nodes}
use Rattle.query_resolver.specs.Nodes.{Places, nodes_in, own_place}
use Rattle.type_checker.specs.WordRules.{FirstBroken}
use Rattle.type_checker.specs.declared.blame.Operands.{Operands}
use Rattle.type_checker.specs.declared.word_stop.WordStop.{WordStop}
use Rattle.type_checker.proofs.Answered.{answered_err, answered_ok}
use Rattle.type_checker.proofs.Walked.{root_kept, root_refused}

module _ (node : Qre → Qre → Qre) (f g : Qre) (places : Places) (cells : Partition)
    (operands : Operands) (are : AreOperands cells f g operands)
    (result : Result Sets WordStop) where
  -- what is found of the root where there are sets
  abbrev pub AreAnswered : Type 0
  AreAnswered = IfOk result (λ sets. (c : Partition) (a b : Qre) → AreOperands c a b operands
      → IsKept c.layout.columns (node a b) sets)

  kept_here : AreAnswered → IfOk result (IsKept cells.layout.columns (node f g))
  kept_here answered =
      answered_ok result _ (IsKept cells.layout.columns (node f g)) answered
      (λ sets given. given cells f g are)

  module _ (standing : Standing)
      (none : FirstBroken (operand_nodes cells.layout.columns standing (node f g) places)
      None) where
    pub two_kept : AreAnswered
        → OnOk result (FirstBroken (nodes_in cells.layout.columns standing (node f g) places) None)
    two_kept answered =
        root_kept cells.layout.columns standing (node f g) places none result (kept_here answered)

    -- and where it is refused
    pub two_refused : IfErr result (λ stop. (c : Partition) (a b : Qre) → AreOperands c a b operands
        → IsBrokenAt c.layout.columns (node a b) (own_place places) stop)
        → IfErr result (IsBrokenBy (nodes_in cells.layout.columns standing (node f g) places))
    two_refused answered =
        root_refused cells.layout.columns standing (node f g) places none result
        (answered_err result _
        (IsBrokenAt cells.layout.columns (node f g) (own_place places)) answered
        (λ stop given. given cells f g are))
