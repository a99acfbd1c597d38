use Rattle.std.proofs.Common.{◌≡◌, arith, ◌∙◌, ap}
use Rattle.predicate_cells.specs.Cells.{cell_count}
use Rattle.dead_words.proofs.Gathering.{gathered_all}
use Rattle.dead_words.proofs.letters.letters_of.Goals as goal

pub returns : goal.returns
returns c =
    let count = c.count-cell-end.ensures.count ∙ ap cell_count c.cells-2.ensures in
    let all : c.cells.cell ≡ cell_count c.args.nfa.now.cells = omega (arith, count) in
    gathered_all c.args.nfa.now _ _ (rw all at c.cells.invariant)
