-- An iteration: what is found of its root, from the automaton of its operand.
use Rattle.std.proofs.Common.{◌≡◌, ℤ, Result, IfErr, IfOk, subst}
use Rattle.language_base.specs.declared.span.Span.{Span}
use Rattle.predicate_cells.specs.Cells.{Partition}
use Rattle.query_model.specs.Queries.{Qre, iter}
use Rattle.rate_expr.specs.Sets.{Sets}
use Rattle.symbolic_nfa.specs.Automata.{Automaton}
use Rattle.expressions.specs.Expressions.{Expression}
use Rattle.type_checker.specs.Breaches.{IsAutomatonOf, IsBrokenAt, IsKept}
use Rattle.type_checker.specs.declared.word_stop.WordStop.{WordStop}
use Rattle.type_checker.proofs.Answered.{answered_err, answered_ok}

module _ (cells : Partition) (operand : Automaton) (same : operand.cells ≡ cells) (f : Qre)
    (are : IsAutomatonOf f operand) (number : ℤ) (step : Expression)
    (result : Result Sets WordStop) where
  -- where there are sets
  pub iter_kept : IfOk result (λ sets. (a : Qre) (n : ℤ) (e : Expression) → IsAutomatonOf a operand
      → IsKept operand.cells.layout.columns (iter a n e) sets)
      → IfOk result (IsKept cells.layout.columns (iter f number step))
  iter_kept answered =
      answered_ok result _ (IsKept cells.layout.columns (iter f number step))
      answered (λ sets given.
      subst (λ (c : Partition). IsKept c.layout.columns (iter f number step) sets) same
      (given f number step are))

  -- and where it is refused
  pub iter_refused : (span : Span)
      → IfErr result (λ stop. (a : Qre) (n : ℤ) (e : Expression) → IsAutomatonOf a operand
      → IsBrokenAt operand.cells.layout.columns (iter a n e) span stop)
      → IfErr result (IsBrokenAt cells.layout.columns (iter f number step) span)
  iter_refused span answered =
      answered_err result _ (IsBrokenAt cells.layout.columns (iter f number step) span)
      answered (λ stop given.
      subst (λ (c : Partition). IsBrokenAt c.layout.columns (iter f number step) span stop) same
      (given f number step are))
