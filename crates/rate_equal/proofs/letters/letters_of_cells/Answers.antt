use Rattle.std.proofs.Common.{◌≡◌, arith, ◌∙◌, ap}
use Rattle.predicate_cells.specs.Cells.{cell_count}
use Rattle.rate_equal.proofs.Gathered.{gathered_all}
use Rattle.rate_equal.proofs.letters.letters_of_cells.Goals as goal

pub cells-preserved : goal.cells-preserved
cells-preserved c =
    let count = c.count-cell-end.ensures.count ∙ ap cell_count c.cells-2.ensures in record {
      gathered = c.in_ok-add_letter.ensures.gathered _ _ _ c.cells.invariant.gathered
          (c.met_by.ensures, c.met_by-in-cells.ensures) (omega (arith, count));
      few = omega (arith, c.cells.invariant.few, c.in_ok-add_letter.ensures.few);
    }

pub returns-clause-letters : goal.returns-clause-letters
returns-clause-letters c =
    let count = c.count-cell-end.ensures.count ∙ ap cell_count c.cells-2.ensures in
    let all : c.cells.cell ≡ cell_count c.args.first.now.cells = omega (arith, count) in
    gathered_all c.args.first.now c.args.second.now c.requires _ _
    (rw all at c.cells.invariant.gathered)
