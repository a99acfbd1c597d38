use Rattle.std.proofs.Common.{◌∙◌, ap, sym}
use Rattle.query_model.specs.QueryTypes.{type_of_expression}
use Rattle.expressions.specs.Shown.{shown_types}
use Rattle.value_ops.specs.declared.value.ValueType.TheVariants.{Rec}
use Rattle.expressions.proofs.RecordParts.{plain_record}
use Rattle.query_resolver.proofs.Parts.{counted}
use Rattle.query_resolver.proofs.values.type_of_expression.Goals as goal

pub returns-in-Rec : goal.returns-in-Rec
returns-in-Rec c = sym (
    ap (type_of_expression (shown_types c.args.types.now))
    (plain_record c.args.value.now c.in-Rec.parts c.as_slice.result.now c.in-Rec.is
    c.as_slice.ensures.parts)
    ∙ ap Rec (counted c.as_slice.result.now))
