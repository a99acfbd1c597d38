use Rattle.predicates.specs.Plain.{plain_of}
use Rattle.predicates.proofs.Mapped.{found_is_member}
use Rattle.predicate_cells.proofs.cells.Cells.decides.Goals as goal

pub returns : goal.returns
returns c =
    rw (← c.self.view_is, c.is_some.ensures)
    (found_is_member c.self.inside.preds (plain_of c.args.pred.now) c.place_of.result
    c.place_of.ensures.found c.place_of.ensures.missing)
