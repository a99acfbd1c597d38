use Rattle.std.proofs.Common.{rules, refl, arith}
use Rattle.query_parser.specs.declared.term.Term.TheViews.{the_lemmas}
use Rattle.query_syntax.proofs.Fitting.{item_fits, call_form, term_read}
use Rattle.query_syntax.proofs.rate_reading.+read.Goals as goal

pub rate_of-rate_call-requires : goal.rate_of-rate_call-requires
rate_of-rate_call-requires t c = (
  search (rules, the_lemmas),
  rw (c.as_slice.ensures, c.as_slice-in-Call.ensures)
      (call_form _ _ c.in-Call.word c.in-Call.arguments c.in-Call.span c.requires c.in-Call.is),
)

pub rate_of-returns-in-Call : goal.rate_of-returns-in-Call
rate_of-returns-in-Call t c =
    term_read c.rate_call.result _ c.args.term.now c.in-Call.word c.in-Call.arguments
    c.in-Call.span c.in-Call.is
    (rw (c.as_slice.ensures, c.as_slice-in-Call.ensures) at c.rate_call.ensures)

pub operands_of-boxed_rate-requires : goal.operands_of-boxed_rate-requires
operands_of-boxed_rate-requires t c = (
  search (rules, the_lemmas),
  item_fits _ _ _ 0 _ c.requires (omega (arith, c.requires.as_many)) c.left-item.is refl,
)

pub operands_of-boxed_rate-requires-2 : goal.operands_of-boxed_rate-requires-2
operands_of-boxed_rate-requires-2 t c = (
  search (rules, the_lemmas),
  item_fits _ _ _ 1 _ c.requires (omega (arith, c.requires.as_many)) c.right-item.is refl,
)
