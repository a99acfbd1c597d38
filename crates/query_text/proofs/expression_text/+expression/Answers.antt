-- A record is written as its parts are.
use Rattle.std.proofs.Common.{◌≡◌, ◌++◌, OnOk, ap, subst, sym, arith}
use Rattle.expressions.specs.Expressions.{Expression}
use Rattle.expressions.proofs.RecordParts.{plain_record}
use Rattle.query_text.proofs.Measures.{weight_of}
use Rattle.query_text.specs.Forms.{expression_text}
use Rattle.query_text.specs.Memory.{HasTextKeys}
use Rattle.query_text.specs.Namings.{naming_of}
use Rattle.query_text.proofs.expression_text.+expression.Goals as goal

pub write_expression-returns-in-Rec-clause-text : goal.write_expression-returns-in-Rec-clause-text
write_expression-returns-in-Rec-clause-text t c =
    subst
    (λ (plain : Expression). OnOk c.write_record.result (c.write_record.new.text.items
    ≡ c.args.text.now.items ++ expression_text (naming_of c.args.naming.now) plain))
    (sym (plain_record c.args.value.now c.in-Rec.parts c.as_slice.result.now c.in-Rec.is
    c.as_slice.ensures.parts))
    c.write_record.ensures.text

pub write_expression-returns-in-Rec-clause-keys : goal.write_expression-returns-in-Rec-clause-keys
write_expression-returns-in-Rec-clause-keys t c =
    subst (λ (plain : Expression). OnOk c.write_record.result (HasTextKeys plain))
    (sym (plain_record c.args.value.now c.in-Rec.parts c.as_slice.result.now c.in-Rec.is
    c.as_slice.ensures.parts))
    c.write_record.ensures.keys

pub write_expression-write_record-requires : goal.write_expression-write_record-requires
write_expression-write_record-requires t c =
    let same = ap weight_of (plain_record c.args.value.now c.in-Rec.parts c.as_slice.result.now
    c.in-Rec.is c.as_slice.ensures.parts) in
    (omega (arith, same, c.decreases), tt)
