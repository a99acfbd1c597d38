-- For the prover. The text of one term.
use Rattle.std.specs.Prelude.{ℕ, List}
use Rattle.query_forms.specs.Terms as plain
use Rattle.query_parser.specs.declared.term.Term.{Term}
use Rattle.query_parser.specs.Plain.{term_before}
use Rattle.query_parser.specs.Printing.{arguments_text}

-- a term by itself
unfoldable pub term_text : Term → List ℕ
term_text term = arguments_text (term_before term plain.none)
