use Rattle.std.proofs.Common.{sym, ap, ◌∙◌}
use Rattle.query_parser.specs.Plain.{terms_of}
use Rattle.query_syntax.proofs.Fitting.{call_form, call_written}
use Rattle.query_syntax.proofs.stream_reading.kind_of.Goals as goal

pub fixed_of-digits-requires : goal.fixed_of-digits-requires
fixed_of-digits-requires c =
    rw (c.as_slice-in-Call.ensures, c.as_slice-in-Call-2.ensures)
    (call_form _ _ c.in-Call.word c.in-Call.arguments c.in-Call.span c.requires c.in-Call.is)

pub returns-in-Call : goal.returns-in-Call
returns-in-Call c =
    call_written _ c.in-Call.word c.in-Call.arguments c.in-Call.span _ _ c.in-Call.is
    (sym c.as_slice-in-Call.ensures ∙ c.fixed_of-digits.ensures.word)
    (ap terms_of (sym c.as_slice-in-Call-2.ensures) ∙ c.fixed_of-digits.ensures.digits)
