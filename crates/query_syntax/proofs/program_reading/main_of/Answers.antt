use Rattle.std.proofs.Common.{[], ◌∷◌, codes, sym, ap, ◌∙◌}
use Rattle.query_forms.specs.declared.term_place.TermPlace.TheVariants.{Query}
use Rattle.query_parser.specs.Plain.{terms_of}
use Rattle.query_syntax.proofs.Fitting.{call_written}
use Rattle.query_syntax.proofs.TopTerms.{top_call}
use Rattle.query_syntax.proofs.program_reading.main_of.Goals as goal

pub only_query-requires : goal.only_query-requires
only_query-requires c =
    rw c.as_slice.ensures
    (top_call _ (codes "main") (Query ∷ []) c.in-Call.field-0 c.in-Call.arguments c.in-Call.span
    c.requires c.in-Call.is).1

pub returns : goal.returns
returns c =
    call_written _ c.in-Call.field-0 c.in-Call.arguments c.in-Call.span _ _ c.in-Call.is
    (top_call _ (codes "main") (Query ∷ []) c.in-Call.field-0 c.in-Call.arguments c.in-Call.span
    c.requires c.in-Call.is).0
    (ap terms_of (sym c.as_slice.ensures) ∙ c.in_ok-query-in-Call.ensures)
