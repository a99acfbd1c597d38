use Rattle.std.proofs.Common.{refl}
use Rattle.std.proofs.lemmas.Nat.{mod_below}
use Rattle.predicate_cells.proofs.ColumnSteps.{width_more, digit_below, sample_more}
use Rattle.predicate_cells.proofs.RanksBelow.{cells_positive}
use Rattle.predicate_cells.proofs.columns.fields_of.Goals as goal

pub field-requires : goal.field-requires
field-requires c =
    let width = width_more c.args.columns.now c.loop-classes.classes-index c.classes-item.result
    c.loop-classes-test.true c.classes-item.is c.loop-classes.width
    c.loop-classes.invariant.width in
    rw (c.count.ensures, width)
    (digit_below c.args.columns.now c.loop-classes.classes-index c.classes-item.result
    c.loop-classes-test.true c.classes-item.is c.loop-classes.width c.loop-classes.rest
    c.loop-classes.invariant.width c.loop-classes.invariant.below)

pub loop-classes-preserved : goal.loop-classes-preserved
loop-classes-preserved c =
    let width = width_more c.args.columns.now c.loop-classes.classes-index c.classes-item.result
    c.loop-classes-test.true c.classes-item.is c.loop-classes.width
    c.loop-classes.invariant.width in
    let field = rw (c.count.ensures, width) at c.in_ok-field.ensures in
    rw (c.count.ensures, width, c.in_ok-push.ensures.items, field) record {
      width = refl;
      below = mod_below c.loop-classes.rest _ (cells_positive _);
      whole = sample_more c.args.columns.now c.loop-classes.classes-index c.classes-item.result
          c.loop-classes-test.true c.classes-item.is c.loop-classes.fields.items
          c.loop-classes.rest _ c.loop-classes.invariant.whole;
    }
