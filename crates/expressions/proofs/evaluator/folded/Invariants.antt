-- The scalars before the index are folded.
use Rattle.std.proofs.Common.{◌≡◌, take}
use Rattle.std.specs.Prelude.{fold}
use Rattle.value_ops.specs.Entries.{values_of}
use Rattle.value_ops.specs.Operators.{binary_of}
use Rattle.expressions.proofs.evaluator.folded.Given as goal

abbrev pub invariant-loop-i : goal.invariant-loop-i
invariant-loop-i l = l.so_far ≡ fold (binary_of l.op) l.fn.first (take l.i (values_of l.table))
