use Rattle.std.proofs.Common.{◌∙◌, ap, sym}
use Rattle.value_ops.specs.declared.value.ValueType.TheVariants.{Rec}
use Rattle.expressions.proofs.RecordParts.{plain_record}
use Rattle.query_model.specs.QueryTypes.{of_two, type_of_expression}
use Rattle.dump_fits.proofs.Records.{as_many}
use Rattle.dump_fits.proofs.value_types.type_on_both.Goals as goal

pub returns-in-Rec : goal.returns-in-Rec
returns-in-Rec c =
    sym (ap (type_of_expression (of_two c.args.left c.args.right))
    (plain_record c.args.value.now c.in-Rec.parts c.as_slice.result.now c.in-Rec.is
    c.as_slice.ensures.parts)
    ∙ ap Rec (as_many c.as_slice.result.now))
