-- The expression is the record of its parts.
use Rattle.std.proofs.Common.{◌∙◌, ap, subst}
use Rattle.std.specs.Option.{option_copied, option_map}
use Rattle.expressions.specs.Evaluation.{given, value_of}
use Rattle.expressions.specs.Expressions.{Expression, plain_parts}
use Rattle.expressions.specs.Typing.{HasType, types_of}
use Rattle.value_ops.specs.declared.value.Value.TheVariants as value
use Rattle.expressions.proofs.RecordParts.{numbers_from, plain_record}
use Rattle.expressions.proofs.expr.Expr.eval.Goals as goal

pub record-requires-clause-numbers : goal.record-requires-clause-numbers
record-requires-clause-numbers c =
    let types =
    types_of (given c.args.fields.now (option_copied c.args.left) (option_copied c.args.right)) in
    let plain = plain_record c.args.self.now c.in-Rec.parts c.as_slice.result.now c.in-Rec.is
    c.as_slice.ensures.parts in
    numbers_from types (plain_parts c.as_slice.result.now) c.requires.0
    (subst (λ (e : Expression). HasType types e c.requires.0) plain c.requires.1)

pub returns-in-Rec-clause-value : goal.returns-in-Rec-clause-value
returns-in-Rec-clause-value c =
    let inputs = given c.args.fields.now (option_copied c.args.left) (option_copied c.args.right) in
    let plain = plain_record c.args.self.now c.in-Rec.parts c.as_slice.result.now c.in-Rec.is
    c.as_slice.ensures.parts in
    ap (value_of inputs) plain ∙ ap (option_map value.Rec) c.record.ensures
