use Rattle.std.proofs.Common.{◌≡◌, ◌≤◌, ◌+◌, codes, rules, List, length, refl, sym, ap, ◌∙◌, subst}
use Rattle.std.proofs.Common.{arith}
use Rattle.std.proofs.lemmas.List.{length_push, take_all}
use Rattle.few_parts.specs.Sizes.{IsRecordSize}
use Rattle.query_forms.specs.declared.term_place.TermPlace.TheVariants.{Expr}
use Rattle.query_forms.specs.Terms.{Terms}
use Rattle.query_parser.specs.declared.term.Term.{Term}
use Rattle.query_parser.specs.declared.term.Term.TheViews.{the_lemmas}
use Rattle.query_parser.specs.Plain.{term_before, terms_of}
use Rattle.query_syntax.specs.Calls.{IsCall}
use Rattle.query_syntax.specs.declared.expression.Expression.{Expression, Record}
use Rattle.query_syntax.specs.Files.{all_before}
use Rattle.query_syntax.specs.Fits.{Fits}
use Rattle.query_syntax.specs.Plain.{plain_expression}
use Rattle.query_syntax.specs.Written.{expression_before}
use Rattle.query_syntax.proofs.Fitting.{all_fit, as_many_fit, item_fits, call_form, call_written}
use Rattle.query_syntax.proofs.Fitting.{is_call, term_read, three_terms}
use Rattle.query_syntax.proofs.Lists.{more_before}
use Rattle.query_syntax.proofs.Records.{as_many_read, none_read, record_written}
use Rattle.query_syntax.proofs.+read_expression.Goals as goal

pub expression_reading::expression_of-expression_call-requires :
    goal.expression_reading::expression_of-expression_call-requires
expression_reading::expression_of-expression_call-requires t c = (
  search (rules, the_lemmas),
  rw (c.as_slice.ensures, c.as_slice-in-Call.ensures)
      (call_form _ _ c.in-Call.word c.in-Call.arguments c.in-Call.span c.requires c.in-Call.is),
)

pub expression_reading::expression_of-returns-in-Call :
    goal.expression_reading::expression_of-returns-in-Call
expression_reading::expression_of-returns-in-Call t c =
    term_read c.expression_call.result _ c.args.term.now c.in-Call.word c.in-Call.arguments
    c.in-Call.span c.in-Call.is
    (rw (c.as_slice.ensures, c.as_slice-in-Call.ensures) at c.expression_call.ensures)

pub expression_calls::comparison_of-comparison_head-compare-requires :
    goal.expression_calls::comparison_of-comparison_head-compare-requires
expression_calls::comparison_of-comparison_head-compare-requires t c =
    rw (c.as_slice.ensures, c.as_slice-arguments.ensures)
    (call_form _ _ c.in-Call.word c.in-Call.arguments c.in-Call.span c.requires c.in-Call.is)

pub expression_calls::comparison_of-returns : goal.expression_calls::comparison_of-returns
expression_calls::comparison_of-returns t c =
    call_written _ c.in-Call.word c.in-Call.arguments c.in-Call.span _ _ c.in-Call.is
    (sym c.as_slice.ensures ∙ c.comparison_head-compare.ensures.word)
    (ap terms_of (sym c.as_slice-arguments.ensures) ∙ c.in_ok-left-in-Call.ensures)

pub expression_calls::operands_of-boxed_expression-requires :
    goal.expression_calls::operands_of-boxed_expression-requires
expression_calls::operands_of-boxed_expression-requires t c = (
  search (rules, the_lemmas),
  item_fits _ _ _ 0 _ c.requires (omega (arith, c.requires.as_many)) c.left-item.is refl,
)

pub expression_calls::operands_of-boxed_expression-requires-2 :
    goal.expression_calls::operands_of-boxed_expression-requires-2
expression_calls::operands_of-boxed_expression-requires-2 t c = (
  search (rules, the_lemmas),
  item_fits _ _ _ 1 _ c.requires (omega (arith, c.requires.as_many)) c.right-item.is refl,
)

pub expression_calls::if_of-comparison_of-requires :
    goal.expression_calls::if_of-comparison_of-requires
expression_calls::if_of-comparison_of-requires t c = (
  search (rules, the_lemmas),
  item_fits _ _ _ 0 _ c.requires (omega (arith, c.requires.as_many)) c.test-item.is refl,
)

pub expression_calls::if_of-boxed_expression-requires :
    goal.expression_calls::if_of-boxed_expression-requires
expression_calls::if_of-boxed_expression-requires t c = (
  search (rules, the_lemmas),
  item_fits _ _ _ 1 _ c.requires (omega (arith, c.requires.as_many)) c.holds-item.is refl,
)

pub expression_calls::if_of-boxed_expression-requires-2 :
    goal.expression_calls::if_of-boxed_expression-requires-2
expression_calls::if_of-boxed_expression-requires-2 t c = (
  search (rules, the_lemmas),
  item_fits _ _ _ 2 _ c.requires (omega (arith, c.requires.as_many)) c.fails-item.is refl,
)

pub expression_calls::if_of-returns : goal.expression_calls::if_of-returns
expression_calls::if_of-returns t c =
    is_call _ _ _ _
    (three_terms _ _ _ _ c.requires.as_many c.test-item.is c.holds-item.is c.fails-item.is
    ∙ (rw (c.in_ok-test.ensures, c.in_ok-holds.ensures, c.in_ok-boxed_expression.ensures) refl))

pub expression_calls::get_of-name_of-requires : goal.expression_calls::get_of-name_of-requires
expression_calls::get_of-name_of-requires t c =
    item_fits _ _ _ 0 _ c.requires (omega (arith, c.requires.as_many)) c.table-item.is refl

pub expression_calls::get_of-text_of-requires : goal.expression_calls::get_of-text_of-requires
expression_calls::get_of-text_of-requires t c =
    item_fits _ _ _ 1 _ c.requires (omega (arith, c.requires.as_many)) c.key-item.is refl

pub expression_calls::get_of-boxed_expression-requires :
    goal.expression_calls::get_of-boxed_expression-requires
expression_calls::get_of-boxed_expression-requires t c = (
  search (rules, the_lemmas),
  item_fits _ _ _ 2 _ c.requires (omega (arith, c.requires.as_many)) c.absent-item.is refl,
)

pub expression_calls::get_of-returns : goal.expression_calls::get_of-returns
expression_calls::get_of-returns t c =
    is_call _ _ _ _
    (three_terms _ _ _ _ c.requires.as_many c.table-item.is c.key-item.is c.absent-item.is
    ∙ (rw (c.in_ok-table.ensures, c.in_ok-text_of.ensures, c.in_ok-absent.ensures) refl))

pub expression_calls::extremum_of-name_of-requires :
    goal.expression_calls::extremum_of-name_of-requires
expression_calls::extremum_of-name_of-requires t c =
    item_fits _ _ _ 0 _ c.requires (omega (arith, c.requires.as_many)) c.table-item.is refl

pub expression_calls::extremum_of-boxed_expression-requires :
    goal.expression_calls::extremum_of-boxed_expression-requires
expression_calls::extremum_of-boxed_expression-requires t c = (
  search (rules, the_lemmas),
  item_fits _ _ _ 1 _ c.requires (omega (arith, c.requires.as_many)) c.first-item.is refl,
)

pub expression_reading::expression_call-record_of-requires :
    goal.expression_reading::expression_call-record_of-requires
expression_reading::expression_call-record_of-requires t c =
    let fit = rw c.in-Record.is at c.expression_head.ensures.places in
    let size = rw c.in-Record.is at c.expression_head.ensures.size in
    (search (rules, the_lemmas), (all_fit Expr _ _ fit, as_many_fit Expr _ _ fit size))

pub expression_calls::record_of-expression_of-requires :
    goal.expression_calls::record_of-expression_of-requires
expression_calls::record_of-expression_of-requires t c = (
  search (rules, the_lemmas),
  subst (Fits Expr) (sym c.argument-item.is)
      (c.requires.fit c.arguments.argument-index c.argument-item.result c.arguments-test.true),
)

pub expression_calls::record_of-arguments-preserved :
    goal.expression_calls::record_of-arguments-preserved
expression_calls::record_of-arguments-preserved t c =
    let before = c.arguments.invariant in
    let inside = c.arguments-test.true in record {
      within = omega arith;
      written = more_before (λ part. expression_before (plain_expression part)) c.args.arguments.now
          c.arguments.argument-index c.argument-item.result c.arguments.parts.items
          c.push.new.self.items c.in_ok-expression_of.field-0 c.arguments-test.true
          c.argument-item.is c.in_ok-push.ensures.items before.written
          c.in_ok-expression_of.ensures;
      as_many = ap length c.in_ok-push.ensures.items
          ∙ length_push c.arguments.parts.items c.in_ok-expression_of.field-0
          ∙ ap (λ n. n + 1) before.as_many;
    }

pub expression_calls::record_of-arguments-init : goal.expression_calls::record_of-arguments-init
expression_calls::record_of-arguments-init t c = none_read c.args.arguments.now _ (search rules)

pub expression_calls::record_of-of-requires : goal.expression_calls::record_of-of-requires
expression_calls::record_of-of-requires t c =
    let end : length c.args.arguments.now ≤ c.arguments.argument-index = omega arith in
    subst IsRecordSize
    (sym (as_many_read c.args.arguments.now c.arguments.parts.items c.arguments.argument-index end
    c.arguments.invariant))
    c.requires.size

pub expression_calls::record_of-returns : goal.expression_calls::record_of-returns
expression_calls::record_of-returns t c =
    let end : length c.args.arguments.now ≤ c.arguments.argument-index = omega arith in
    subst (λ (parts : List Expression). IsCall (codes "rec") c.args.arguments.now c.args.span
    (expression_before (plain_expression (Record parts c.args.span)))) (sym c.of.ensures)
    (record_written c.arguments.parts.items c.args.span c.args.arguments.now
    (subst (λ (list : List Term). (rest : Terms) → all_before term_before list rest
    ≡ all_before (λ part. expression_before (plain_expression part)) c.arguments.parts.items rest)
    (take_all c.arguments.argument-index c.args.arguments.now end) c.arguments.invariant.written))
