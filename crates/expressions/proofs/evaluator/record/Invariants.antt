-- The scalars so far are those of the first expressions.
use Rattle.expressions.specs.Shown.{inputs_of}
use Rattle.expressions.proofs.RecordParts.{AreFound}
use Rattle.expressions.proofs.evaluator.record.Given as goal

abbrev pub invariant-parts : goal.invariant-parts
invariant-parts l = AreFound (inputs_of l.inputs) l.parts l.scalars l.place
