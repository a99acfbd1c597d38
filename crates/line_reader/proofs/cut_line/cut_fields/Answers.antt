use Rattle.std.specs.Option.{option_copied}
use Rattle.std.proofs.lemmas.Result.{err_from_is_err_and}
use Rattle.line_reader.specs.CutLines.{texts_of}
use Rattle.line_reader.proofs.Fields.{stop-same}
use Rattle.line_reader.proofs.cut_line.cut_fields.Goals as goal

pub returns-in_err-push_field-clause-stopped : goal.returns-in_err-push_field-clause-stopped
returns-in_err-push_field-clause-stopped c =
    let p = err_from_is_err_and c.from_residual-in_err-push_field.result
    c.from_residual-in_err-push_field.ensures.1 in
    rw (p.1, p.2) (stop-same _ _ _
    (rw (c.in-Some.is, c.in_ok-text.ensures, ← c.as_slice.ensures) at c.texts.invariant.read)
    (c.in_err-push_field.ensures.stopped (texts_of (option_copied c.in_ok-text.tail))))
