use Rattle.std.proofs.Common.{◌≡◌, get_or, ap, ◌∙◌}
use Rattle.predicate_cells.specs.Cells.{Partition}
use Rattle.predicate_cells.specs.CellSets.{flagged_from}
use Rattle.predicates.specs.Plain.{plain_of}
use Rattle.predicate_cells.specs.Ranks.{ranks_from}
use Rattle.predicate_cells.specs.Samples.{mask_in}
use Rattle.predicate_cells.proofs.CellsMarked.{truths, truths_mark, length_truths}
use Rattle.predicate_cells.proofs.Flags.{flags_below, flags_rise}
use Rattle.predicates.proofs.Mapped.{image_got}
use Rattle.predicate_cells.proofs.cells.Cells.mask.Goals as goal

-- the mask has the cells whose samples meet the predicate
set : (c : goal.After-index)
    → c.index.result.now ≡ flagged_from 0 (truths c.args.self.now (plain_of c.args.pred.now))
set c =
    let pred = plain_of c.args.pred.now in
    let ranks = c.self.invariant.3
    ∙ ap (λ (p : Partition). ranks_from 0 p.layout.columns p.preds) c.self.view_is in
    c.index.ensures
    ∙ ap (λ masks. get_or masks c.in-Some.place c.index.result.now) c.self.invariant.4
    ∙ image_got (mask_in c.self.inside.columns.items) c.self.inside.preds c.in-Some.place pred
    c.index.result.now c.in-Some.ensures.found ∙ ap (λ columns. mask_in columns pred) ranks

pub returns-clause-met : goal.returns-clause-met
returns-clause-met c =
    rw (set c) (truths_mark c.args.self.now (plain_of c.args.pred.now) c.requires)

pub returns-clause-below : goal.returns-clause-below
returns-clause-below c =
    let pred = plain_of c.args.pred.now in
    rw (set c, ← length_truths c.args.self.now pred) (flags_below (truths c.args.self.now pred))

pub returns-clause-rise : goal.returns-clause-rise
returns-clause-rise c = rw (set c) (flags_rise (truths c.args.self.now (plain_of c.args.pred.now)))
