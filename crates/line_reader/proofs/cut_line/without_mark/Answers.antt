use Rattle.std.proofs.Common.{sym, ◌∙◌}
use Rattle.line_reader.proofs.CutLines.{strip_bom-mark, strip_bom-none}
use Rattle.line_reader.proofs.FieldTexts.{drop_whole}
use Rattle.line_reader.proofs.cut_line.without_mark.Goals as goal

pub returns-then-starts_with : goal.returns-then-starts_with
returns-then-starts_with c =
    drop_whole c.args.line.now 3 ∙ sym (strip_bom-mark c.args.line.now
    (sym c.starts_with.ensures.value ∙ c.if-starts_with.true)).1

pub returns-else-starts_with : goal.returns-else-starts_with
returns-else-starts_with c =
    sym (strip_bom-none c.args.line.now (sym c.starts_with.ensures.value ∙ c.if-starts_with.false))
