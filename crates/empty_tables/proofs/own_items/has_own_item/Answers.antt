use Rattle.std.proofs.Common.{◌<◌, ℕ, refl, subst}
use Rattle.std.specs.List.{Contains}
use Rattle.predicates.specs.Plain.{plain_of}
use Rattle.empty_tables.proofs.OwnCells.{and_next, not_if_false, own_found, so_if_true}
use Rattle.empty_tables.proofs.own_items.has_own_item.Goals as goal
use Rattle.empty_tables.proofs.own_items.has_own_item.Goals.{else-has-via-else-has}
use Rattle.empty_tables.proofs.own_items.has_own_item.Goals.{else-has-via-then-has+else-not-has}

pub returns-then-not-has : goal.returns-then-not-has
returns-then-not-has c = (
  λ is. own_found c.args.cells.now (plain_of c.args.sync.now) (plain_of c.args.pred.now)
      c.mask-met.result.now c.mask-every.result.now c.mask-met.ensures.met
      c.mask-every.ensures.met c.cells.cell
      (subst (λ (n : ℕ). c.cells.cell < n) c.count-cell-end.ensures.count c.cells-test.true)
      (so_if_true _ c.has.ensures c.if-has.true)
      (not_if_false _ c.has-then-has.ensures c.if-not-has.true),
  λ own. refl,
)

pub cells-preserved : goal.cells-preserved
cells-preserved c =
    let every = c.mask-every.result.now in
    and_next (λ (cell : ℕ). Contains c.mask-met.result.now cell → Contains every cell)
    c.cells.cell c.cells.invariant (elim c.else-has.branch [
      | else-has-via-then-has+else-not-has w ↦
          λ there. so_if_true _ w.has-then-has.ensures w.if-not-has.false
      | else-has-via-else-has w ↦
          λ there. absurd (not_if_false _ c.has.ensures w.if-has.false there)
    ])
