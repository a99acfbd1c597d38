use Rattle.std.proofs.Common.{ap, ◌∙◌, arith}
use Rattle.predicate_cells.specs.Cells.{Partition, cell_count}
use Rattle.predicate_cells.specs.Ranks.{ranks_from}
use Rattle.predicate_cells.specs.Samples.{sample_of}
use Rattle.predicate_cells.proofs.CellsFilled.{sample_in}
use Rattle.predicate_cells.proofs.RanksOf.{count_of_read}
use Rattle.predicate_cells.proofs.cells.Cells.sample.Goals as goal

pub fields_of-requires-clause-few : goal.fields_of-requires-clause-few
fields_of-requires-clause-few c =
    let count = count_of_read _ _ _ _ c.deref.ensures.value c.self.invariant.3 in
    omega (arith, c.self.invariant.1, c.self.invariant.2)

pub fields_of-requires-clause-below : goal.fields_of-requires-clause-below
fields_of-requires-clause-below c =
    let count = count_of_read _ _ _ _ c.deref.ensures.value c.self.invariant.3 in
    omega (arith, ap cell_count c.self.view_is, c.requires)

pub returns : goal.returns
returns c =
    let cells = c.args.self.now in
    let ranks = c.deref.ensures.value ∙ c.self.invariant.3
    ∙ ap (λ (p : Partition). ranks_from 0 p.layout.columns p.preds) c.self.view_is in
    rw (c.from_fields.ensures ∙ c.in_ok-fields_of.ensures
    ∙ ap (λ rs. sample_of rs c.args.cell) ranks) (sample_in cells c.args.cell c.requires)
