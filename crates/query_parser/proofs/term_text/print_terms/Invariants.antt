use Rattle.std.proofs.Common.{◌≡◌, ◌++◌, take}
use Rattle.std.specs.List.{flat_map}
use Rattle.query_parser.proofs.Printed.{term_line}
use Rattle.query_parser.proofs.term_text.print_terms.Given as goal

abbrev pub invariant-terms : goal.invariant-terms
invariant-terms l =
    l.text.items ≡ l.initial.text.items ++ flat_map term_line (take l.term-index l.terms)
