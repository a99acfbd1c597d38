use Rattle.std.proofs.Common.{◌∙◌, ap}
use Rattle.predicate_cells.specs.Cells.{cell_of}
use Rattle.ambiguity_example.proofs.Readable.{read_on, read_all}
use Rattle.ambiguity_example.proofs.membership.reads.Goals as goal

pub items-preserved : goal.items-preserved
items-preserved c = record {
  after =
      read_on c.args.nfa.now c.args.items.now c.items.item-index c.item-item.result _ _ _ c.requires
      c.items-test.true c.item-item.is
      (c.of.ensures.cell ∙ ap (λ cells. cell_of cells c.item-item.result) c.cells.ensures)
      c.items.invariant.after c.step-state.ensures.steps;
  exists = c.step-state.ensures.state;
}

pub returns : goal.returns
returns c = λ rate are. read_all c.args.nfa.now c.args.items.now c.items.item-index _ _ rate
    c.items.auto.item-index-end c.items-test.false c.items.invariant.after are c.accepts.ensures
