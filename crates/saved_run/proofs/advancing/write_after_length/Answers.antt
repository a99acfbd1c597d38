use Rattle.std.proofs.Common.{ℕ, List, length, ap, ◌∙◌}
use Rattle.saved_run.specs.Texts.{length_text}
use Rattle.saved_run.proofs.Writing.{after_line, part_of_line}
use Rattle.saved_run.proofs.advancing.write_after_length.Goals as goal

pub returns-in-Ok-write_all-clause-written : goal.returns-in-Ok-write_all-clause-written
returns-in-Ok-write_all-clause-written g c =
    after_line _ _ _ c.as_slice-2.result.now c.args.bytes
    (c.as_slice-2.ensures ∙ c.in-Ok.ensures
    ∙ ap (λ (b : List ℕ). length_text (length b)) c.as_slice.ensures)
    c.in-Ok-write_all.ensures.written c.report.result c.report.ensures.reported

pub returns-in-Err-clause-written : goal.returns-in-Err-clause-written
returns-in-Err-clause-written g c =
    part_of_line _ _ c.as_slice-2.result.now (length_text (length c.args.bytes)) c.args.bytes
    (c.as_slice-2.ensures ∙ c.in-Ok.ensures
    ∙ ap (λ (b : List ℕ). length_text (length b)) c.as_slice.ensures)
    c.in-Err.ensures.written
