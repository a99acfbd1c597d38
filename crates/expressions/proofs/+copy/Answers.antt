-- Copies of the parts of a record make an equal one.
use Rattle.std.proofs.Common.{◌≡◌, ◌≤◌, IfOk, length, subst, sym, arith}
use Rattle.expressions.specs.declared.expr.Expr.{Expr}
use Rattle.expressions.specs.Expressions.{Expression, plain_of}
use Rattle.expressions.proofs.RecordParts.{copied_all, plain_record}
use Rattle.expressions.proofs.+copy.Goals as goal

pub copies::copy_of_record-returns : goal.copies::copy_of_record-returns
copies::copy_of_record-returns t c =
    let end : length c.args.parts.now ≤ c.parts.part-index = omega arith in
    copied_all c.args.parts.now c.parts.copies.items c.of.result c.parts.part-index end c.of.ensures
    c.parts.invariant

pub expr::Expr::try_copy-returns-in-Rec : goal.expr::Expr::try_copy-returns-in-Rec
expr::Expr::try_copy-returns-in-Rec t c =
    subst
    (λ (plain : Expression). IfOk c.copy_of_record.result (λ (copy : Expr). plain_of copy ≡ plain))
    (sym (plain_record c.args.self.now c.in-Rec.parts c.as_slice.result.now c.in-Rec.is
    c.as_slice.ensures.parts))
    c.copy_of_record.ensures
