-- The parts of a record, as plain expressions and as terms.
use Rattle.std.proofs.Common.{◌≡◌, ◌≤◌, ℕ, List, [], ◌∷◌, length, take, codes, refl, sym, ap, ◌∙◌}
use Rattle.std.proofs.Common.{subst, arith}
use mathlib.Core.Former.{Count}
use Rattle.language_base.specs.declared.span.Span.{Span}
use Rattle.query_forms.specs.Terms.{Terms, none, call}
use Rattle.query_parser.specs.declared.term.Term.{Term}
use Rattle.query_parser.specs.Plain.{term_before}
use Rattle.query_syntax.specs.Calls.{IsCall}
use Rattle.query_syntax.specs.declared.expression.Expression.{Expression, Record, Record'}
use Rattle.query_syntax.specs.declared.expression.Expression.{Row_of-Expression, end_of-Expression}
use Rattle.query_syntax.specs.declared.expression.Expression.{more_of-Expression}
use Rattle.query_syntax.specs.declared.expression.Expression.{items-the_row-Expression}
use Rattle.query_syntax.specs.declared.expression.Expression.{items_hidden-the_row-Expression-0}
use Rattle.query_syntax.specs.Expressions as e
use Rattle.query_syntax.specs.Files.{all_before}
use Rattle.query_syntax.specs.Plain.{plain_expression, plain_expressions, row_expressions}
use Rattle.query_syntax.specs.Written.{expression_before, expressions_terms}
use Rattle.query_syntax.proofs.Lists.{terms_before}

-- the row of a record's parts
abbrev row_of : Expression → (n : Count) × Row_of-Expression n
row_of (Record' _ row span) = (_, row)
row_of _ = (_, end_of-Expression)

-- a row has the expressions of its list
row_has : (n : _) (row : Row_of-Expression n)
    → row_expressions row ≡ plain_expressions (items-the_row-Expression n row)
row_has n end_of-Expression = refl
row_has n (more_of-Expression first rest) = ap (e.more (plain_expression first)) (row_has _ rest)

-- so a record is made of the plain ones of its list
pub plain_record : (parts : List Expression) (span : Span)
    → plain_expression (Record parts span) ≡ e.rec (plain_expressions parts) span
plain_record parts span =
    let row = row_of (Record parts span) in
    let same = row_has row.0 row.1
    ∙ ap plain_expressions (items_hidden-the_row-Expression-0 parts) in
    ap (λ (es : e.Expressions). e.rec es span) same

-- an expression that is a record, whatever shows its parts
pub shown_record : (expression : Expression) (parts shown : List Expression) (span : Span)
    → expression ≡ Record parts span → shown ≡ parts
    → plain_expression expression ≡ e.rec (plain_expressions shown) span
shown_record expression parts shown span is same =
    ap plain_expression is ∙ plain_record parts span
    ∙ ap (λ (list : List Expression). e.rec (plain_expressions list) span) (sym same)

-- a part before others
abbrev part_before : Expression → Terms → Terms
part_before part = expression_before (plain_expression part)

-- the terms of parts, one after the other
parts_before : (parts : List Expression)
    → all_before part_before parts none ≡ expressions_terms (plain_expressions parts)
parts_before [] = refl
parts_before (first ∷ rest) = ap (part_before first) (parts_before rest)

-- a record is written as the call of its parts
pub record_written : (parts : List Expression) (span : Span) (arguments : List Term)
    → ((rest : Terms) → all_before term_before arguments rest
    ≡ all_before (λ part. expression_before (plain_expression part)) parts rest)
    → IsCall (codes "rec") arguments span (expression_before (plain_expression (Record parts span)))
record_written parts span arguments written = λ rest.
    ap (λ (ts : Terms). call (codes "rec") ts span rest)
    (terms_before arguments ∙ written none ∙ parts_before parts)
    ∙ ap (λ (v : e.Expression). expression_before v rest) (sym (plain_record parts span))

-- the terms before a place are what this many parts are written as
pub record AreRead (arguments : List Term) (parts : List Expression) (index : ℕ) : Type 0 where
  pub within : index ≤ length arguments
  pub written : (rest : Terms) → all_before term_before (take index arguments) rest
      ≡ all_before (λ part. expression_before (plain_expression part)) parts rest
  pub as_many : length parts ≡ index

-- none are before the first
pub none_read : (arguments : List Term) (parts : List Expression) → parts ≡ []
    → AreRead arguments parts 0
none_read arguments parts is =
    subst (λ (ps : List Expression). AreRead arguments ps 0) (sym is)
    (record { within = omega arith; written = λ rest. refl; as_many = refl })

-- at the end all are, and as many as there are arguments
pub as_many_read : (arguments : List Term) (parts : List Expression) (index : ℕ)
    → length arguments ≤ index → AreRead arguments parts index → length parts ≡ length arguments
as_many_read arguments parts index end read =
    let within = read.within in
    let many = read.as_many in
    omega arith
