-- The expression is the record of its parts.
use Rattle.std.proofs.Common.{IfNone, IfSome, subst, sym}
use Rattle.expressions.specs.Expressions.{Expression}
use Rattle.expressions.specs.Shown.{shown_types}
use Rattle.expressions.specs.Typing.{HasType}
use Rattle.value_ops.specs.declared.value.ValueType.{ValueType}
use Rattle.expressions.proofs.RecordParts.{plain_record}
use Rattle.expressions.proofs.expr.Expr.type_in.Goals as goal

pub returns-in-Rec-clause-some : goal.returns-in-Rec-clause-some
returns-in-Rec-clause-some c =
    subst (λ (plain : Expression). IfSome c.type_of_record.result
    (HasType (shown_types c.args.types.now) plain))
    (sym (plain_record c.args.self.now c.in-Rec.parts c.as_slice.result.now c.in-Rec.is
    c.as_slice.ensures.parts))
    c.type_of_record.ensures.some

pub returns-in-Rec-clause-none : goal.returns-in-Rec-clause-none
returns-in-Rec-clause-none c =
    subst (λ (plain : Expression). IfNone c.type_of_record.result
    ((type : ValueType) → HasType (shown_types c.args.types.now) plain type → ⊥))
    (sym (plain_record c.args.self.now c.in-Rec.parts c.as_slice.result.now c.in-Rec.is
    c.as_slice.ensures.parts))
    c.type_of_record.ensures.none
