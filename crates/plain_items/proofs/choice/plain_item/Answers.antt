use Rattle.std.proofs.Common.{◌≤◌, length, ap, ◌∙◌, arith}
use Rattle.plain_items.proofs.Columns.{in_more, plain_all, plain_more}
use Rattle.plain_items.proofs.choice.plain_item.Goals as goal

pub columns-preserved : goal.columns-preserved
columns-preserved c = record {
  cell = in_more c.args.cells.now c.args.cell _ _ c.columns.column c.columns.invariant.cell
      c.in_ok-make_plain.ensures;
  plain = plain_more c.args.cells.now c.args.cell _ _ c.columns.column c.columns.invariant.cell
      c.columns.invariant.plain c.in_ok-make_plain.ensures;
}

pub returns-clause-plain : goal.returns-clause-plain
returns-clause-plain c =
    let columns = c.columns-column-end.ensures.columns
    ∙ ap (λ layout. layout.columns) c.schema.ensures in
    let all : length c.args.cells.now.layout.columns ≤ c.columns.column =
    omega (arith, ap length columns) in
    plain_all c.args.cells.now c.args.cell _ c.columns.column c.columns.invariant.cell all
    c.columns.invariant.plain
