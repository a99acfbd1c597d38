use Rattle.std.proofs.Common.{sym, ap, ◌∙◌}
use Rattle.query_parser.specs.Plain.{terms_of}
use Rattle.query_syntax.proofs.Fitting.{call_written}
use Rattle.query_syntax.proofs.TopTerms.{stream_call}
use Rattle.query_syntax.proofs.stream_reading.stream_of.Goals as goal

pub mode_and_columns-requires-clause-some : goal.mode_and_columns-requires-clause-some
mode_and_columns-requires-clause-some c =
    rw c.as_slice.ensures (stream_call _ c.in-Call.field-0 c.in-Call.arguments c.in-Call.span
    c.requires c.in-Call.is).some

pub mode_and_columns-requires-clause-fit : goal.mode_and_columns-requires-clause-fit
mode_and_columns-requires-clause-fit c =
    rw c.as_slice.ensures
    (stream_call _ c.in-Call.field-0 c.in-Call.arguments c.in-Call.span c.requires c.in-Call.is).fit

pub returns : goal.returns
returns c =
    call_written _ c.in-Call.field-0 c.in-Call.arguments c.in-Call.span _ _ c.in-Call.is
    (stream_call _ c.in-Call.field-0 c.in-Call.arguments c.in-Call.span c.requires c.in-Call.is).is
    (ap terms_of (sym c.as_slice.ensures) ∙ c.in_ok-mode-in-Call.ensures)
