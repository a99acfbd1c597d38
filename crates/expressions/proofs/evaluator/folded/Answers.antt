-- One more scalar is folded.
use Rattle.std.proofs.Common.{◌∙◌, ap, sym}
use Rattle.value_ops.specs.Entries.{values_of}
use Rattle.value_ops.specs.Operators.{binary_of}
use Rattle.expressions.proofs.Folds.{fold_more}
use Rattle.expressions.proofs.evaluator.folded.Goals as goal

pub loop-i-preserved : goal.loop-i-preserved
loop-i-preserved c =
    c.binary-so_far.ensures
    ∙ ap (λ so_far. binary_of c.args.op so_far c.value.result) c.loop-i.invariant
    ∙ sym (fold_more (binary_of c.args.op) c.args.first (values_of c.args.table.now) c.loop-i.i
    c.value.result c.value.ensures)
