use Rattle.std.proofs.Common.{◌≡◌, ℕ, subst, ◌++◌, ◌∙◌, ap, length, take, drop, replicate, arith}
use Rattle.std.proofs.lemmas.Grind.{common_steps}
use Rattle.predicate_cells.specs.Cells.{cell_count}
use Rattle.predicate_cells.proofs.CellsBelow.{cell_below}
use Rattle.predicate_cells.proofs.CellsFilled.{cells_have_items}
use Rattle.rate_expr.specs.Sets.{Has}
use Rattle.rate_expr.proofs.MaskMembers.{has_zero}
use Rattle.ambiguity_check.proofs.Filling.{filled_none, filled_next, filled_all, rows_cover}
use Rattle.ambiguity_check.proofs.Filling.{joined_already, same_masks}
use Rattle.ambiguity_check.proofs.meetings.meetings.Goals as goal
use Rattle.ambiguity_check.proofs.meetings.meetings.Goals.{then-ne, else-ne}

pub cells-init : goal.cells-init
cells-init c = (
  filled_none _ _ _ _
      (c.in_ok-rows.ensures.items_if_clones_equal (λ y same. same)
      ∙ ap (λ n. replicate n 0) c.count.ensures.count),
  λ left right has has'. absurd (has_zero left has),
)

pub join-requires : goal.join-requires
join-requires c =
    rows_cover c.args.first.now.cells c.args.first.now.sets c.args.second.now.sets _ _ _
    c.met_by.ensures
    (ap length c.deref_mut.ensures.value ∙ c.cells.invariant.0.same)

pub cells-preserved : goal.cells-preserved
cells-preserved c =
    let count = c.count-cell-end.ensures.count ∙ ap cell_count c.cells-2.ensures in
    let have = cells_have_items c.args.first.now.cells in
    elim c.if-ne.branch [
      | then-ne w ↦
          let whole : take c.cells.rows.len (w.join.new.rows ++ drop
          (length w.join.new.rows) c.cells.rows.items) ≡ w.join.new.rows =
          grind (arith, common_steps) in
          rw (w.rows-is, w.before-is, whole) (
            filled_next c.args.first.now.cells c.args.first.now.sets c.args.second.now.sets have
                c.cells.cell _ _ _ _
                (omega (arith, count)) c.met_by.ensures
                (rw (← c.requires) at c.met_by-in-cells.ensures) c.cells.invariant.0
                (rw w.deref_mut.ensures.value at w.join.ensures),
            w.join.ensures.joined,
          )
      | else-ne w ↦
          let same = same_masks c.met_by.result c.cells.before.0 c.met_by-in-cells.result
          c.cells.before.1 w.if-ne.ensures in
          let already = joined_already c.args.first.now.cells c.args.first.now.sets
          c.args.second.now.sets c.met_by.result c.met_by-in-cells.result c.cells.rows.items
          (λ left right has has'. c.cells.invariant.1 left right
          (subst (λ (m : ℕ). Has m left) same.0 has)
          (subst (λ (m : ℕ). Has m right) same.1 has')) in
          rw (w.rows-is, w.before-is) (
            filled_next c.args.first.now.cells c.args.first.now.sets c.args.second.now.sets have
                c.cells.cell _ _ _ _
                (omega (arith, count)) c.met_by.ensures
                (rw (← c.requires) at c.met_by-in-cells.ensures) c.cells.invariant.0 already,
            c.cells.invariant.1,
          )
    ]

pub returns : goal.returns
returns c =
    let count = c.count-cell-end.ensures.count ∙ ap cell_count c.cells-2.ensures in
    filled_all c.args.first.now.cells c.args.first.now.sets c.args.second.now.sets
    (cell_below c.args.first.now.cells) _ _ (omega (arith, count)) c.cells.invariant.0
