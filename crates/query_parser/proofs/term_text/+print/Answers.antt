use Rattle.std.proofs.Common.{ap, ◌∙◌, refl, append_assoc, arith, take, drop, length, ◌-◌}
use Rattle.std.proofs.lemmas.Grind.{common_steps}
use Rattle.std.proofs.lemmas.List.{take_all, length-drop}
use Rattle.query_parser.specs.TermText.{term_text}
use Rattle.query_parser.proofs.Printed.{call_text, whole_row}
use Rattle.query_parser.proofs.term_text.+print.Goals as goal

pub print_arguments-returns : goal.print_arguments-returns
print_arguments-returns t c =
    let arguments = c.args.arguments.now in
    let row = whole_row arguments c.first-item.result
    (take (length arguments - 1) (drop 1 arguments)) c.others.argument-index
    c.in-len1-up.len_at_least c.first-item.is
    (take_all _ _ (omega (arith, length-drop 1 arguments))) c.others-test.false in
    c.others.invariant ∙ (rw (c.in_ok-print_term.ensures, append_assoc, row) refl)

pub print_term-returns-in_ok-print_arguments-in-Call :
    goal.print_term-returns-in_ok-print_arguments-in-Call
print_term-returns-in_ok-print_arguments-in-Call t c =
    let is = ap term_text c.in-Call.is
    ∙ call_text c.in-Call.head c.in-Call.arguments c.in-Call.field-2 in
    rw is (grind (
      arith,
      common_steps,
      c.extend_from_slice-in-Call-3.ensures.items,
      c.in_ok-print_arguments-in-Call.ensures,
      c.in_ok-extend_from_slice-in-Call-2.ensures.items,
      c.in_ok-extend_from_slice-in-Call.ensures.items,
      c.as_slice-in-Call-2.ensures,
      c.as_slice-in-Call.ensures,
    ))
