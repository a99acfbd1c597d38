use Rattle.std.proofs.Common.{◌∙◌, arith}
use Rattle.std.specs.Option.{option_copied}
use Rattle.std.proofs.lemmas.Result.{err_from_is_err_and}
use Rattle.line_reader.specs.LineParts.{split_of}
use Rattle.line_reader.proofs.Fields.{stop-same}
use Rattle.line_reader.proofs.plain_line.plain_fields.Goals as goal

pub returns-in_err-push_field-clause-stopped : goal.returns-in_err-push_field-clause-stopped
returns-in_err-push_field-clause-stopped c =
    let p = err_from_is_err_and c.from_residual-in_err-push_field.result
    c.from_residual-in_err-push_field.ensures.1 in
    rw (p.1, p.2) (stop-same _ _ _
    (rw (c.in-Some.is, c.plain_text.ensures) at c.texts.invariant.read)
    (c.in_err-push_field.ensures.stopped (split_of (option_copied c.plain_text.result.1))))

pub texts-smaller : goal.texts-smaller
texts-smaller c = rw (c.in-Some.is, c.plain_text.ensures) (omega arith)

pub texts-preserved : goal.texts-preserved
texts-preserved c = record {
  read = (rw (c.in-Some.is, c.plain_text.ensures) at c.texts.invariant.read)
      ∙ c.in_ok-push_field.ensures.pushed _;
  left = omega (
    arith,
    rw (c.in-Some.is, c.plain_text.ensures) at c.texts.invariant.left,
    c.in_ok-push_field.ensures.count,
  );
}
