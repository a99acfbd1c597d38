-- One scalar more is filled in, until all are.
use Rattle.std.proofs.Common.{◌<◌, ◌≤◌, length, arith}
use Rattle.value_ops.proofs.RecordLaws.{all_filled, more_filled}
use Rattle.value_ops.proofs.rec.Rec.new.Goals as goal

pub scalars-preserved : goal.scalars-preserved
scalars-preserved c =
    let within : c.scalars.place < length c.args.scalars.now = omega arith in
    let few : length c.args.scalars.now ≤ 8 = omega arith in
    more_filled c.args.scalars.now c.scalars.parts c.scalars.numbers c.scalars.place _
    c.known-scalar.result c.of.result c.number_of.result within few c.known-scalar.ensures.same
    c.known-scalar.ensures.range c.of.ensures c.number_of.ensures c.scalars.invariant

pub invariant_of-result : goal.invariant_of-result
invariant_of-result c =
    let end : length c.args.scalars.now ≤ c.scalars.place = omega arith in
    (all_filled c.args.scalars.now c.scalars.parts c.scalars.numbers c.scalars.place end c.requires
    c.scalars.invariant).0

pub returns : goal.returns
returns c =
    let end : length c.args.scalars.now ≤ c.scalars.place = omega arith in
    (all_filled c.args.scalars.now c.scalars.parts c.scalars.numbers c.scalars.place end c.requires
    c.scalars.invariant).1
