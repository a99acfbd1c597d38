-- A record is made of its parts, each reduced.
use Rattle.std.proofs.Common.{◌≡◌, ◌≤◌, IfOk, length, subst, sym, arith}
use Rattle.expressions.specs.declared.expr.Expr.{Expr}
use Rattle.expressions.specs.Expressions.{Expression, plain_of}
use Rattle.expressions.proofs.RecordParts.{plain_record}
use Rattle.query_rewrite.specs.Reducing.{reduced}
use Rattle.query_rewrite.proofs.Records.{reduced_all}
use Rattle.query_rewrite.proofs.reducing.+reduce.Goals as goal

pub reduced_record-returns : goal.reduced_record-returns
reduced_record-returns t c =
    let end : length c.args.parts.now ≤ c.parts.part-index = omega arith in
    reduced_all c.args.parts.now c.parts.made.items c.of.result c.parts.part-index end c.of.ensures
    c.parts.invariant

pub reduced-returns-in-Rec : goal.reduced-returns-in-Rec
reduced-returns-in-Rec t c =
    subst
    (λ (plain : Expression).
    IfOk c.reduced_record.result (λ (made : Expr). plain_of made ≡ reduced plain))
    (sym (plain_record c.args.value.now c.in-Rec.parts c.as_slice.result.now c.in-Rec.is
    c.as_slice.ensures.parts))
    c.reduced_record.ensures
