-- One more of the scalars is found.
use Rattle.std.proofs.Common.{◌<◌, length, refl, arith}
use Rattle.expressions.specs.Shown.{inputs_of}
use Rattle.expressions.proofs.RecordParts.{more_found, none_found}
use Rattle.expressions.proofs.evaluator.record.Goals as goal

pub parts-init : goal.parts-init
parts-init c = none_found (inputs_of c.args.inputs.now) c.args.parts.now _ refl c.requires.numbers

pub parts-preserved : goal.parts-preserved
parts-preserved c =
    let within : c.parts.place < length c.args.parts.now = omega arith in
    more_found (inputs_of c.args.inputs.now) c.args.parts.now c.parts.scalars c.parts.place
    c.index-parts-place.result c.scalar.result within c.requires.size.1 c.index-parts-place.is
    c.scalar.ensures c.parts.invariant
