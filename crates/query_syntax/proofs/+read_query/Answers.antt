use Rattle.std.proofs.Common.{rules, refl, ◌∙◌, arith}
use Rattle.query_parser.specs.declared.term.Term.TheViews.{the_lemmas}
use Rattle.query_syntax.proofs.Fitting.{item_fits, call_form, is_call, term_read, four_terms}
use Rattle.query_syntax.proofs.+read_query.Goals as goal

pub query_reading::query_of-query_call-requires : goal.query_reading::query_of-query_call-requires
query_reading::query_of-query_call-requires t c = (
  search (rules, the_lemmas),
  rw (c.as_slice.ensures, c.as_slice-in-Call.ensures)
      (call_form _ _ c.in-Call.word c.in-Call.arguments c.in-Call.span c.requires c.in-Call.is),
)

pub query_reading::query_of-returns-in-Call : goal.query_reading::query_of-returns-in-Call
query_reading::query_of-returns-in-Call t c =
    term_read c.query_call.result _ c.args.term.now c.in-Call.word c.in-Call.arguments
    c.in-Call.span c.in-Call.is
    (rw (c.as_slice.ensures, c.as_slice-in-Call.ensures) at c.query_call.ensures)

pub query_calls::operands_of-boxed_query-requires :
    goal.query_calls::operands_of-boxed_query-requires
query_calls::operands_of-boxed_query-requires t c = (
  search (rules, the_lemmas),
  item_fits _ _ _ 0 _ c.requires (omega (arith, c.requires.as_many)) c.left-item.is refl,
)

pub query_calls::operands_of-boxed_query-requires-2 :
    goal.query_calls::operands_of-boxed_query-requires-2
query_calls::operands_of-boxed_query-requires-2 t c = (
  search (rules, the_lemmas),
  item_fits _ _ _ 1 _ c.requires (omega (arith, c.requires.as_many)) c.right-item.is refl,
)

pub query_calls::operands_and_value-boxed_query-requires :
    goal.query_calls::operands_and_value-boxed_query-requires
query_calls::operands_and_value-boxed_query-requires t c = (
  search (rules, the_lemmas),
  item_fits _ _ _ 0 _ c.requires (omega (arith, c.requires.as_many)) c.left-item.is refl,
)

pub query_calls::operands_and_value-boxed_query-requires-2 :
    goal.query_calls::operands_and_value-boxed_query-requires-2
query_calls::operands_and_value-boxed_query-requires-2 t c = (
  search (rules, the_lemmas),
  item_fits _ _ _ 1 _ c.requires (omega (arith, c.requires.as_many)) c.right-item.is refl,
)

pub query_calls::operands_and_value-boxed_expression-requires :
    goal.query_calls::operands_and_value-boxed_expression-requires
query_calls::operands_and_value-boxed_expression-requires t c =
    item_fits _ _ _ 2 _ c.requires (omega (arith, c.requires.as_many)) c.value-item.is refl

pub query_calls::iter_of-number_of-requires : goal.query_calls::iter_of-number_of-requires
query_calls::iter_of-number_of-requires t c =
    item_fits _ _ _ 1 _ c.requires (omega (arith, c.requires.as_many)) c.first-item.is refl

pub query_calls::iter_of-boxed_query-requires : goal.query_calls::iter_of-boxed_query-requires
query_calls::iter_of-boxed_query-requires t c = (
  search (rules, the_lemmas),
  item_fits _ _ _ 0 _ c.requires (omega (arith, c.requires.as_many)) c.operand-item.is refl,
)

pub query_calls::iter_of-boxed_expression-requires :
    goal.query_calls::iter_of-boxed_expression-requires
query_calls::iter_of-boxed_expression-requires t c =
    item_fits _ _ _ 2 _ c.requires (omega (arith, c.requires.as_many)) c.step-item.is refl

pub query_calls::apply_of-boxed_query-requires : goal.query_calls::apply_of-boxed_query-requires
query_calls::apply_of-boxed_query-requires t c = (
  search (rules, the_lemmas),
  item_fits _ _ _ 0 _ c.requires (omega (arith, c.requires.as_many)) c.operand-item.is refl,
)

pub query_calls::apply_of-boxed_expression-requires :
    goal.query_calls::apply_of-boxed_expression-requires
query_calls::apply_of-boxed_expression-requires t c =
    item_fits _ _ _ 1 _ c.requires (omega (arith, c.requires.as_many)) c.value-item.is refl

pub query_calls::collect_of-boxed_key-requires : goal.query_calls::collect_of-boxed_key-requires
query_calls::collect_of-boxed_key-requires t c =
    item_fits _ _ _ 0 _ c.requires (omega (arith, c.requires.as_many)) c.key-item.is refl

pub query_calls::collect_of-boxed_predicate-requires :
    goal.query_calls::collect_of-boxed_predicate-requires
query_calls::collect_of-boxed_predicate-requires t c =
    item_fits _ _ _ 1 _ c.requires (omega (arith, c.requires.as_many)) c.sync-item.is refl

pub query_calls::collect_of-boxed_rate-requires : goal.query_calls::collect_of-boxed_rate-requires
query_calls::collect_of-boxed_rate-requires t c =
    item_fits _ _ _ 2 _ c.requires (omega (arith, c.requires.as_many)) c.rate-item.is refl

pub query_calls::collect_of-boxed_query-requires : goal.query_calls::collect_of-boxed_query-requires
query_calls::collect_of-boxed_query-requires t c = (
  search (rules, the_lemmas),
  item_fits _ _ _ 3 _ c.requires (omega (arith, c.requires.as_many)) c.body-item.is refl,
)

pub query_calls::collect_of-returns : goal.query_calls::collect_of-returns
query_calls::collect_of-returns t c =
    is_call _ _ _ _
    (four_terms _ _ _ _ _ c.requires.as_many c.key-item.is c.sync-item.is
    c.rate-item.is c.body-item.is
    ∙ (rw (
      c.in_ok-key.ensures,
      c.in_ok-sync.ensures,
      c.in_ok-rate.ensures,
      c.in_ok-body.ensures,
    ) refl))
