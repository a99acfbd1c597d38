use Rattle.std.proofs.Common.{◌&&◌, ◌||◌, not, true, sym, ◌∙◌}
use Rattle.predicates.specs.Plain.{plain_of}
use Rattle.predicate_cells.specs.Samples.{samples}
use Rattle.predicate_cells.proofs.PredTests.{is_test}
use Rattle.predicate_cells.proofs.SampleCells.{length_samples, map_constant, map-map}
use Rattle.predicate_cells.proofs.TruthLists.{joined_truths, map-same, test_of_row}
use Rattle.predicate_cells.proofs.mask.+truths.Goals as goal

pub truths_of-returns-in-Any : goal.truths_of-returns-in-Any
truths_of-returns-in-Any t c =
    rw (
      c.in-Any.is,
      map_constant true (samples c.args.columns.now),
      length_samples c.args.columns.now,
    )
    (rw c.product_of.ensures at c.constant.ensures)

pub truths_of-returns-in-Eq : goal.truths_of-returns-in-Eq
truths_of-returns-in-Eq t c =
    let test = is_test c.in-Eq.column c.args.pred.now c.in-Eq.is in
    rw (sym (map-same _ _ (test_of_row c.in-Eq.column (plain_of c.args.pred.now) test)
    (samples c.args.columns.now))) c.column_truths.ensures

pub truths_of-returns-in_ok-truths-in-Not : goal.truths_of-returns-in_ok-truths-in-Not
truths_of-returns-in_ok-truths-in-Not t c =
    let negated = rw (c.in_ok-truths-in-Not.ensures, c.deref-in-Not.ensures) at c.negated.ensures in
    rw c.in-Not.is (negated ∙ map-map not _ (samples c.args.columns.now))

pub truths_of_both-returns : goal.truths_of_both-returns
truths_of_both-returns t c =
    rw (c.in_ok-truths.ensures, c.deref.ensures.value, c.in_ok-others.ensures) at c.both.ensures
    ∙ joined_truths (λ a b. a && b) _ _ (samples c.args.columns.now)

pub truths_of_either-returns : goal.truths_of_either-returns
truths_of_either-returns t c =
    rw (c.in_ok-truths.ensures, c.deref.ensures.value, c.in_ok-others.ensures) at c.either.ensures
    ∙ joined_truths (λ a b. a || b) _ _ (samples c.args.columns.now)
