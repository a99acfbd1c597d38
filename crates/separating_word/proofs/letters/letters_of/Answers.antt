use Rattle.std.proofs.Common.{◌≡◌, arith, ◌∙◌, ap}
use Rattle.predicate_cells.specs.Cells.{cell_count}
use Rattle.separating_word.proofs.Gathering.{gathered_all}
use Rattle.separating_word.proofs.letters.letters_of.Goals as goal

pub returns : goal.returns
returns c =
    let count = c.count-cell-end.ensures.count ∙ ap cell_count c.cells-2.ensures in
    let all : c.cells.cell ≡ cell_count c.args.automata.now.left.cells = omega (arith, count) in
    gathered_all c.args.automata.now _ _ (rw all at c.cells.invariant)
