-- The canonical text, term by term.
use Rattle.std.proofs.Common.{◌≡◌, ℕ, ℤ, List, [], ◌∷◌, ◌++◌, codes, refl, sym, ap, ◌∙◌, arith, ◌≤◌}
use Rattle.std.proofs.Common.{length, take, drop, get_or}
use Rattle.std.proofs.lemmas.List.{take_all}
use Rattle.std.specs.List.{flat_map}
use Rattle.std.specs.Fmt.{signed_decimal}
use Rattle.std.proofs.lemmas.Grind.{common_steps}
use Rattle.language_base.specs.declared.span.Span.{Span}
use Rattle.query_forms.specs.Terms as plain
use Rattle.query_parser.specs.declared.term.Term.{Term, Word, Number, Text, Call, Call'}
use Rattle.query_parser.specs.declared.term.Terms.{Terms}
use Rattle.query_parser.specs.Plain.{term_before, terms_of}
use Rattle.query_parser.specs.Printing.{joined, arguments_text, file_text, string_text}
use Rattle.query_parser.specs.TermText.{term_text}
use Rattle.query_parser.proofs.Rows.{call_before}

-- a word is its bytes
pub word_text : (bytes : List ℕ) (span : Span) → term_text (Word bytes span) ≡ bytes
unfolding term_text
word_text bytes span = refl

-- a number is its digits
pub number_text : (value : ℤ) (span : Span) → term_text (Number value span) ≡ signed_decimal value
unfolding term_text
number_text value span = refl

-- a string stands in quotes
pub quoted_text : (bytes : List ℕ) (span : Span) → term_text (Text bytes span) ≡ string_text bytes
unfolding term_text
quoted_text bytes span = refl

-- the terms by themselves
pub ruleset leaf_texts = (word_text, number_text, quoted_text)

-- the arguments of a call stand in parentheses
pub call_text : (head : List ℕ) (arguments : Terms) (span : Span) →
    term_text (Call head arguments span)
    ≡ head ++ codes "(" ++ arguments_text (terms_of arguments.terms.items) ++ codes ")"
unfolding term_text
call_text head arguments span = ap arguments_text (call_before head arguments span plain.none)

-- a term, and what is joined to it
first_text : (term : Term) (rest : plain.Terms) →
    arguments_text (term_before term rest) ≡ joined (term_text term) rest (arguments_text rest)
unfolding term_text
first_text (Word bytes span) rest = refl
first_text (Number value span) rest = refl
first_text (Text bytes span) rest = refl
first_text (Call' head shape row span) rest = refl

-- a comma and a space stand before a term
joined_term : (first : List ℕ) (term : Term) (rest : plain.Terms) (others : List ℕ) →
    joined first (term_before term rest) others ≡ first ++ codes ", " ++ others
joined_term first (Word bytes span) rest others = refl
joined_term first (Number value span) rest others = refl
joined_term first (Text bytes span) rest others = refl
joined_term first (Call' head shape row span) rest others = refl

-- an argument after others
abbrev pub argument_after : Term → List ℕ
argument_after term = codes ", " ++ term_text term

-- each argument after the first has a comma and a space before it
joined_arguments : (first : List ℕ) (terms : List Term) →
    joined first (terms_of terms) (arguments_text (terms_of terms))
    ≡ first ++ flat_map argument_after terms
joined_arguments first [] = grind (arith, common_steps)
joined_arguments first (term ∷ terms) =
    joined_term first term (terms_of terms) (arguments_text (terms_of (term ∷ terms)))
    ∙ ap (λ text. first ++ codes ", " ++ text)
    (first_text term (terms_of terms) ∙ joined_arguments (term_text term) terms)
    ∙ grind (arith, common_steps)

-- the arguments are the first and those after it
pub row_text : (term : Term) (terms : List Term) →
    arguments_text (terms_of (term ∷ terms)) ≡ term_text term ++ flat_map argument_after terms
row_text term terms = first_text term (terms_of terms) ∙ joined_arguments (term_text term) terms

-- a term on a line of its own
abbrev pub term_line : Term → List ℕ
term_line term = term_text term ++ codes "\n"

-- a top term, and the lines after it
first_line : (term : Term) (rest : plain.Terms)
    → file_text (term_before term rest) ≡ term_line term ++ file_text rest
unfolding term_text
first_line (Word bytes span) rest = refl
first_line (Number value span) rest = refl
first_line (Text bytes span) rest = refl
first_line (Call' head shape row span) rest = refl

-- each top term is a line
pub file_lines : (terms : List Term) → file_text (terms_of terms) ≡ flat_map term_line terms
file_lines [] = refl
file_lines (term ∷ terms) =
    first_line term (terms_of terms) ∙ ap (λ text. term_line term ++ text) (file_lines terms)

-- lines up to the last are the text of a file
pub whole_file : (terms : List Term) (count : ℕ) → length terms ≤ count →
    flat_map term_line (take count terms) ≡ file_text (terms_of terms)
whole_file terms count le =
    ap (flat_map term_line) (take_all count terms le) ∙ sym (file_lines terms)

-- the first argument and those after it, up to the last, are the text of all
pub whole_row : (terms : List Term) (first : Term) (others : List Term) (count : ℕ)
    → 1 ≤ length terms →
    first ≡ get_or terms 0 first → others ≡ drop 1 terms → length others ≤ count →
    term_text first ++ flat_map argument_after (take count others) ≡ arguments_text (terms_of terms)
whole_row [] first others count le is after all = absurd (omega arith)
whole_row (term ∷ terms) first others count le is after all =
    rw (is, take_all count others all, after) (sym (row_text term terms))
