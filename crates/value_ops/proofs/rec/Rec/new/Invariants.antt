-- What is kept is determined by the scalars so far.
use Rattle.value_ops.proofs.RecordLaws.{IsFilled}
use Rattle.value_ops.proofs.rec.Rec.new.Given as goal

abbrev pub invariant-scalars : goal.invariant-scalars
invariant-scalars l = IsFilled l.scalars l.parts l.numbers l.place
