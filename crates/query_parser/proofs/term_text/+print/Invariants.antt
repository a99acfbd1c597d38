use Rattle.std.proofs.Common.{◌≡◌, ◌++◌, take}
use Rattle.std.specs.List.{flat_map}
use Rattle.query_parser.proofs.Printed.{argument_after}
use Rattle.query_parser.proofs.term_text.+print.Given as goal

abbrev pub invariant-print_arguments-others : goal.invariant-print_arguments-others
invariant-print_arguments-others l =
    l.text.items ≡ l.initial.text.items ++ flat_map argument_after (take l.argument-index l.others)
