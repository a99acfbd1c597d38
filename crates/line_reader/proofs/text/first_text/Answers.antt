use Rattle.std.proofs.Common.{sym, ◌∙◌}
use Rattle.std.proofs.lemmas.Result.{IfOk-weaker}
use Rattle.line_reader.proofs.FieldTexts.{begin_quoted, begin_unquoted, drop_whole}
use Rattle.line_reader.proofs.text.first_text.Goals as goal

pub returns-then-starts_with : goal.returns-then-starts_with
returns-then-starts_with c =
    let quoted = begin_quoted c.args.bytes.now
    (sym c.starts_with.ensures.value ∙ c.if-starts_with.true) in
    IfOk-weaker c.quoted_text.result _ _
    (λ cut is. quoted ∙ rw (drop_whole c.args.bytes.now 1) at is) c.quoted_text.ensures

pub returns : goal.returns
returns c =
    rw (c.cut_at.ensures.before, c.cut_at.ensures.after)
    (begin_unquoted c.args.bytes.now (sym c.starts_with.ensures.value ∙ c.if-starts_with.false))
