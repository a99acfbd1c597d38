-- Statement. The first column of an atom or a collection of items, in the order of the text, whose
-- kind does not fit where it is used. A column of texts may only be compared with a text; other
-- tests and expressions need columns of numbers, a key needs a column of texts, and no column has
-- tables or records.
use Rattle.std.specs.Prelude.{ℕ, Bool, true, false, not, ◌&&◌, List, Option, None, Some}
use Rattle.std.specs.Prelude.{if◌then◌else◌}
use Rattle.std.specs.List.{list_any}
use Rattle.std.specs.Str.{bytes_eq}
use Rattle.query_syntax.specs.Expressions as e
use Rattle.query_syntax.specs.Expressions.{Expression, Expressions}
use Rattle.query_syntax.specs.Predicates as p
use Rattle.query_syntax.specs.Predicates.{Predicate}
use Rattle.query_syntax.specs.Rates as r
use Rattle.query_syntax.specs.Rates.{Rate}
use Rattle.query_syntax.specs.declared.leaf.Literal.{Literal}
use Rattle.query_syntax.specs.declared.leaf.Literal.TheVariants as literal
use Rattle.query_syntax.specs.declared.leaf.Name.{Name}
use Rattle.query_syntax.specs.declared.stream.Column.{Column}
use Rattle.query_syntax.specs.declared.stream.Kind.{Kind}
use Rattle.query_syntax.specs.declared.stream.Kind.TheVariants as kind
use Rattle.explanation.specs.Scopes.{has_name}
use Rattle.explanation.specs.Unknown.{first_of}
use Rattle.explanation.specs.declared.culprit.Culprit.{Culprit}
use Rattle.explanation.specs.declared.culprit.Culprit.TheVariants.{Texts, Numbers, Key, NoTable}
use Rattle.explanation.specs.declared.culprit.Culprit.TheVariants.{NoRecord}

-- values of this kind are written as texts, not as numbers
abbrev pub is_text : Kind → Bool
is_text (kind.Int span) = false
is_text (kind.Text span) = true
is_text (kind.Fixed digits span) = false

-- a column of this name has texts
abbrev pub has_texts : List Column → List ℕ → Bool
has_texts columns name = list_any (λ c. bytes_eq name c.name.bytes && is_text c.kind) columns

-- a column of this name has numbers
abbrev pub has_numbers : List Column → List ℕ → Bool
has_numbers columns name =
    list_any (λ c. bytes_eq name c.name.bytes && not (is_text c.kind)) columns

-- the name, if a number is needed and the column has texts
abbrev pub unless_number : List Column → Name → Option Culprit
unless_number columns name = if has_texts columns name.bytes then Some (Texts name.span) else None

-- the name, if a text is needed and the column has numbers
abbrev pub unless_text : List Column → Name → Option Culprit
unless_text columns name = if has_numbers columns name.bytes then Some (Numbers name.span) else None

-- the name, if a key is needed and the column has numbers
abbrev pub unless_key : List Column → Name → Option Culprit
unless_key columns name = if has_numbers columns name.bytes then Some (Key name.span) else None

-- the name, if a table is needed and a column has this name, since no column has tables
abbrev pub unless_table : List Column → Name → Option Culprit
unless_table columns name = if has_name columns name.bytes then Some (NoTable name.span) else None

-- the name, if a record is needed and a column has this name, since no column has records
abbrev pub unless_record : List Column → Name → Option Culprit
unless_record columns name = if has_name columns name.bytes then Some (NoRecord name.span) else None

-- the name, if the column is compared with a literal of the other kind
abbrev pub misfit_with : List Column → Name → Literal → Option Culprit
misfit_with columns name (literal.Number number) = unless_number columns name
misfit_with columns name (literal.Text text) = unless_text columns name

-- in a predicate
abbrev pub misfit_test : List Column → Predicate → Option Culprit
misfit_test columns (p.any span) = None
misfit_test columns (p.equality operator column literal span) = misfit_with columns column literal
misfit_test columns (p.order operator column bound span) = unless_number columns column
misfit_test columns (p.between column low high span) = unless_number columns column
misfit_test columns (p.is_num column span) = unless_number columns column
misfit_test columns (p.joined operator left right span) =
    first_of (misfit_test columns left) (misfit_test columns right)
misfit_test columns (p.negated operand span) = misfit_test columns operand

-- in a rate
abbrev pub misfit_item : List Column → Rate → Option Culprit
misfit_item columns (r.eps span) = None
misfit_item columns (r.item predicate span) = misfit_test columns predicate
misfit_item columns (r.joined join left right span) =
    first_of (misfit_item columns left) (misfit_item columns right)
misfit_item columns (r.star operand span) = misfit_item columns operand

abbrev mutual
  -- in an expression
  pub misfit_read : List Column → Expression → Option Culprit
  misfit_read columns (e.number number) = None
  misfit_read columns (e.name name) = unless_number columns name
  misfit_read columns (e.unary operator operand span) = misfit_read columns operand
  misfit_read columns (e.binary operator left right span) =
      first_of (misfit_read columns left) (misfit_read columns right)
  misfit_read columns (e.choice operator left right at holds fails span) =
      first_of (first_of (misfit_read columns left) (misfit_read columns right))
      (first_of (misfit_read columns holds) (misfit_read columns fails))
  misfit_read columns (e.summary operator table span) = unless_table columns table
  misfit_read columns (e.extremum operator table first span) = unless_table columns table
  misfit_read columns (e.get table key absent span) = unless_table columns table
  misfit_read columns (e.rec parts span) = misfit_part columns parts
  misfit_read columns (e.part whole index span) = unless_record columns whole

  -- in the parts of a record
  pub misfit_part : List Column → Expressions → Option Culprit
  misfit_part columns e.none = None
  misfit_part columns (e.more first others) =
      first_of (misfit_read columns first) (misfit_part columns others)
