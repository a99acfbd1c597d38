-- There is no part at the place, and one at each before it.
use Rattle.std.proofs.Common.{arith}
use Rattle.value_ops.specs.declared.rec.Part.TheVariants.{Number}
use Rattle.value_ops.proofs.RecordLaws.{none_left}
use Rattle.value_ops.proofs.rec.Rec.len.Goals as goal

pub returns-in-Absent-clause-len : goal.returns-in-Absent-clause-len
returns-in-Absent-clause-len c =
    let left = none_left c.args.self.now c.self.inside.parts c.self.inside.numbers
    c.places.place Number c.self.view_is c.self.invariant c.in-Absent.is in
    omega (arith, left, c.places.invariant)
