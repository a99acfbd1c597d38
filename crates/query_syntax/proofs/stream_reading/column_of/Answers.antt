use Rattle.std.proofs.Common.{sym, ap, ◌∙◌}
use Rattle.query_parser.specs.Plain.{terms_of}
use Rattle.query_syntax.proofs.Fitting.{call_form, call_written}
use Rattle.query_syntax.proofs.stream_reading.column_of.Goals as goal

pub parts_of-requires : goal.parts_of-requires
parts_of-requires c =
    rw (c.as_slice.ensures, c.as_slice-in-Call.ensures)
    (call_form _ _ c.in-Call.word c.in-Call.arguments c.in-Call.span c.requires c.in-Call.is)

pub returns : goal.returns
returns c =
    call_written _ c.in-Call.word c.in-Call.arguments c.in-Call.span _ _ c.in-Call.is
    (sym c.as_slice.ensures ∙ c.in_ok-name-in-Call.ensures.0)
    (ap terms_of (sym c.as_slice-in-Call.ensures) ∙ c.in_ok-name-in-Call.ensures.1)
