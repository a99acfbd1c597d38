-- A record is made of its parts, each filled.
use Rattle.std.proofs.Common.{◌≡◌, ◌≤◌, IfOk, length, subst, sym, arith}
use Rattle.expressions.specs.declared.expr.Expr.{Expr}
use Rattle.expressions.specs.Expressions.{Expression, plain_of}
use Rattle.expressions.proofs.RecordParts.{plain_record}
use Rattle.query_rewrite.specs.Filling.{filled}
use Rattle.query_rewrite.proofs.Records.{filled_all}
use Rattle.query_rewrite.proofs.filling.+fill.Goals as goal

pub filled_record-returns : goal.filled_record-returns
filled_record-returns t c =
    let end : length c.args.parts.now ≤ c.parts.part-index = omega arith in
    filled_all (plain_of c.args.inner.now) c.args.parts.now c.parts.made.items c.of.result
    c.parts.part-index end c.of.ensures c.parts.invariant

pub filled-returns-in-Rec : goal.filled-returns-in-Rec
filled-returns-in-Rec t c =
    subst
    (λ (plain : Expression). IfOk c.filled_record.result
    (λ (made : Expr). plain_of made ≡ filled (plain_of c.args.inner.now) plain))
    (sym (plain_record c.args.outer.now c.in-Rec.parts c.as_slice.result.now c.in-Rec.is
    c.as_slice.ensures.parts))
    c.filled_record.ensures
