use Rattle.plain_items.proofs.Becomes.{becomes_zero}
use Rattle.plain_items.proofs.nearest_number.bring_near_zero.Goals as goal

pub returns-then-branch : goal.returns-then-branch
returns-then-branch c = becomes_zero c.args.cells.now c.args.item.now c.args.column c.args.form _ _
    c.requires.own (rw c.if-branch.true at c.in_ok-put_number.ensures)
