use Rattle.std.proofs.Common.{codes, sym, ap, ◌∙◌}
use Rattle.query_forms.specs.declared.term_place.TermPlace.TheVariants.{Key}
use Rattle.query_parser.specs.Plain.{terms_of}
use Rattle.query_syntax.proofs.Fitting.{call_form, call_written}
use Rattle.query_syntax.proofs.Names.{key_call}
use Rattle.query_syntax.proofs.key_reading.key_of.Goals as goal

pub names_of-requires-clause-fit : goal.names_of-requires-clause-fit
names_of-requires-clause-fit c =
    rw c.as_slice.ensures (key_call _ _ (call_form Key _ c.in-Call.field-0
    c.in-Call.arguments c.in-Call.span c.requires c.in-Call.is)).fit

pub names_of-requires-clause-count : goal.names_of-requires-clause-count
names_of-requires-clause-count c =
    rw c.as_slice.ensures (key_call _ _ (call_form Key _ c.in-Call.field-0
    c.in-Call.arguments c.in-Call.span c.requires c.in-Call.is)).count

pub returns-in_ok-names-in-Call : goal.returns-in_ok-names-in-Call
returns-in_ok-names-in-Call c =
    call_written _ c.in-Call.field-0 c.in-Call.arguments c.in-Call.span (codes "key") _ c.in-Call.is
    (key_call _ _ (call_form Key _ c.in-Call.field-0 c.in-Call.arguments c.in-Call.span c.requires
    c.in-Call.is)).word_is
    (ap terms_of (sym c.as_slice.ensures) ∙ c.in_ok-names-in-Call.ensures)
