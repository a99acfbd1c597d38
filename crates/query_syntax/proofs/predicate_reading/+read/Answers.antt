use Rattle.std.proofs.Common.{rules, refl, arith}
use Rattle.query_parser.specs.declared.term.Term.TheViews.{the_lemmas}
use Rattle.query_syntax.proofs.Fitting.{item_fits, call_form, term_read}
use Rattle.query_syntax.proofs.predicate_reading.+read.Goals as goal

pub predicate_of-predicate_call-requires : goal.predicate_of-predicate_call-requires
predicate_of-predicate_call-requires t c = (
  search (rules, the_lemmas),
  rw (c.as_slice.ensures, c.as_slice-in-Call.ensures)
      (call_form _ _ c.in-Call.word c.in-Call.arguments c.in-Call.span c.requires c.in-Call.is),
)

pub predicate_of-returns-in-Call : goal.predicate_of-returns-in-Call
predicate_of-returns-in-Call t c =
    term_read c.predicate_call.result _ c.args.term.now c.in-Call.word c.in-Call.arguments
    c.in-Call.span c.in-Call.is
    (rw (c.as_slice.ensures, c.as_slice-in-Call.ensures) at c.predicate_call.ensures)

pub joined_of-boxed_predicate-requires : goal.joined_of-boxed_predicate-requires
joined_of-boxed_predicate-requires t c = (
  search (rules, the_lemmas),
  item_fits _ _ _ 0 _ c.requires (omega (arith, c.requires.as_many)) c.left-item.is refl,
)

pub joined_of-boxed_predicate-requires-2 : goal.joined_of-boxed_predicate-requires-2
joined_of-boxed_predicate-requires-2 t c = (
  search (rules, the_lemmas),
  item_fits _ _ _ 1 _ c.requires (omega (arith, c.requires.as_many)) c.right-item.is refl,
)
