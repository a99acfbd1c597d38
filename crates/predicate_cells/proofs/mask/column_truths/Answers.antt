use Rattle.std.proofs.Common.{◌+◌, length, refl, ap, ◌∙◌, add-one, arith}
use Rattle.std.proofs.lemmas.List.{take_rest}
use Rattle.std.proofs.lemmas.List.FromFn.{length-map-range_with_len}
use Rattle.std.proofs.lemmas.Option.{slice_get_read}
use Rattle.predicates.specs.Plain.{plain_of}
use Rattle.predicate_cells.specs.Samples.{row_of}
use Rattle.predicates.specs.Truth.{holds}
use Rattle.predicate_cells.proofs.ColumnSteps.{take_le, drop_le, block_le}
use Rattle.predicate_cells.proofs.SampleCells.{column_truths, no_truths}
use Rattle.predicate_cells.proofs.mask.column_truths.Goals as goal

pub product_of-width-requires : goal.product_of-width-requires
product_of-width-requires c =
    rw (take_rest c.args.columns.now (c.args.column + 1))
    (omega (arith, drop_le c.args.columns.now (c.args.column + 1), c.requires))

pub product_of-requires : goal.product_of-requires
product_of-requires c = omega (arith, take_le c.args.columns.now c.args.column, c.requires)

-- a block is as long as the cells of the column and those after it
pub block_of-requires : goal.block_of-requires
block_of-requires c =
    let found = c.in-Some.ensures.lookup in
    let le = block_le c.args.columns.now c.args.column c.in-Some.classes.now found.3.0 found.1 in
    let long = ap length (c.deref.ensures.value ∙ c.in_ok-truths-in-Some.ensures)
    ∙ length-map-range_with_len _ 0 _ in
    let width = rw (take_rest c.args.columns.now (c.args.column + 1)) at
    c.product_of-width.ensures in
    rw (long, width) (omega (arith, c.requires))

-- and as many of them are all cells
pub returns-in_ok-block-in-Some : goal.returns-in_ok-block-in-Some
returns-in_ok-block-in-Some c =
    let found = c.in-Some.ensures.lookup in
    let is = slice_get_read c.args.columns.now _ c.args.column c.in-Some.classes.now refl
    found.3.0 found.1 in
    let whole =
    column_truths (λ field. holds (plain_of c.args.pred.now) (row_of c.args.column field))
    c.args.columns.now c.args.column c.in-Some.classes.now is in
    let width = rw (take_rest c.args.columns.now (c.args.column + 1), add-one) at
    c.product_of-width.ensures in
    rw whole
    (rw (
      c.product_of.ensures,
      c.deref-in-Some.ensures.value,
      c.in_ok-block-in-Some.ensures,
      c.deref.ensures.value,
      c.in_ok-truths-in-Some.ensures,
      width,
    ) at c.repeated.ensures)

pub returns-in-None : goal.returns-in-None
returns-in-None c =
    let none = no_truths (λ field. holds (plain_of c.args.pred.now) (row_of c.args.column field))
    c.args.columns.now c.args.column c.in-None.ensures.lookup.3 in
    rw none (rw (c.product_of-in-None.ensures, c.holds_in.ensures) at c.constant.ensures)
