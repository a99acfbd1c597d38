-- The arguments of a call, as plain terms.
use Rattle.std.proofs.Common.{◌≡◌, ℕ, List, refl, ap, ◌∙◌}
use mathlib.Core.Former.{Count}
use Rattle.language_base.specs.declared.span.Span.{Span}
use Rattle.query_forms.specs.Terms as plain
use Rattle.query_parser.specs.declared.term.Term.{Term, Call, Call', Row_of-Term, end_of-Term}
use Rattle.query_parser.specs.declared.term.Term.{more_of-Term, items-the_row-Term}
use Rattle.query_parser.specs.declared.term.Term.{items_hidden-the_row-Term-0}
use Rattle.query_parser.specs.declared.term.Terms.{Terms}
use Rattle.query_parser.specs.Plain.{term_before, row_terms, terms_of}

-- the row of a call's arguments
abbrev row_of : Term → (n : Count) × Row_of-Term n
row_of (Call' head _ row span) = (_, row)
row_of _ = (_, end_of-Term)

-- a row has the terms of its list
row_has : (n : _) (row : Row_of-Term n) → row_terms row ≡ terms_of (items-the_row-Term n row)
row_has n end_of-Term = refl
row_has n (more_of-Term term rest) = ap (term_before term) (row_has _ rest)

-- a call before others is its head word with the arguments' terms
pub call_before : (head : List ℕ) (arguments : Terms) (span : Span) (rest : plain.Terms) →
    term_before (Call head arguments span) rest
    ≡ plain.call head (terms_of arguments.terms.items) span rest
call_before head arguments span rest =
    let row = row_of (Call head arguments span) in
    let same = row_has row.0 row.1 ∙ ap terms_of (items_hidden-the_row-Term-0 arguments.terms) in
    ap (λ terms. plain.call head terms span rest) same
