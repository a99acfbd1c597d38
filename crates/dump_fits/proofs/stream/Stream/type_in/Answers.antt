use Rattle.std.proofs.Common.{◌≡◌, ◌∙◌}
use Rattle.value_ops.specs.declared.value.ValueType.TheVariants.{Rec}
use Rattle.dump_fits.proofs.FieldKinds.{part_type_of}
use Rattle.dump_fits.proofs.stream.Stream.type_in.Goals as goal

pub returns-in-Values-Rec : goal.returns-in-Values-Rec
returns-in-Values-Rec c =
    let size : Rec c.in-Values-Rec.size ≡ c.in-Values-Rec.field-0 = cc in
    rw c.in-Values-Rec.is
    (c.then_some-in-Values-Rec.ensures
    ∙ part_type_of c.in-Values-Rec.field-0 c.in-Values-Rec.size c.args.column size)
