use Rattle.std.proofs.Common.{◌+◌, drop}
use Rattle.std.proofs.lemmas.Result.{err_from_is_err_and}
use Rattle.csv.specs.Records.{fields_of}
use Rattle.line_reader.proofs.Fields.{stop-same}
use Rattle.line_reader.proofs.row.row_fields.Goals as goal

pub returns-in_err-push_field-clause-stopped : goal.returns-in_err-push_field-clause-stopped
returns-in_err-push_field-clause-stopped c =
    let p = err_from_is_err_and c.from_residual-in_err-push_field.result
    c.from_residual-in_err-push_field.ensures.1 in
    rw (p.1, p.2) (stop-same _ _ _
    (rw c.text_at.ensures at c.loop-index.invariant.read)
    (c.in_err-push_field.ensures.stopped (drop (c.loop-index.index + 1)
    (fields_of c.args.row.now))))
