use Rattle.std.proofs.Common.{refl}
use Rattle.std.proofs.lemmas.Result.{err_from_is_err_and}
use Rattle.line_reader.proofs.Fields.{stop-first}
use Rattle.line_reader.proofs.PlainLines.{whole_line}
use Rattle.line_reader.proofs.plain_line.whole_item.Goals as goal

pub returns-clause-item : goal.returns-clause-item
returns-clause-item c =
    rw (whole_line c.args.line.now c.requires, c.from_field.ensures, c.in_ok-field.ensures.field)
    refl

pub returns-in_err-field-clause-stopped : goal.returns-in_err-field-clause-stopped
returns-in_err-field-clause-stopped c =
    let p = err_from_is_err_and c.from_residual.result c.from_residual.ensures.1 in
    rw (p.1, p.2, whole_line c.args.line.now c.requires)
    (stop-first _ _ _ c.in_err-field.ensures.stopped)
