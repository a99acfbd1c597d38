use Rattle.std.proofs.Common.{ap, ◌∙◌, ◌++◌}
use Rattle.query_parser.proofs.Printed.{whole_file}
use Rattle.query_parser.proofs.term_text.print_terms.Goals as goal

pub returns : goal.returns
returns c =
    c.terms.invariant ∙ ap (λ lines. c.args.text.now.items ++ lines)
    (whole_file c.args.terms.now c.terms.term-index c.terms-test.false)
