-- Statement. The first name of a predicate, a rate or an expression, in the order of the text, that
-- is not known in a scope.
use Rattle.std.specs.Prelude.{Option, None, Some}
use Rattle.query_syntax.specs.Expressions as e
use Rattle.query_syntax.specs.Expressions.{Expression, Expressions}
use Rattle.query_syntax.specs.Predicates as p
use Rattle.query_syntax.specs.Predicates.{Predicate}
use Rattle.query_syntax.specs.Rates as r
use Rattle.query_syntax.specs.Rates.{Rate}
use Rattle.explanation.specs.Scopes.{Scope, unless_known}
use Rattle.explanation.specs.declared.culprit.Culprit.{Culprit}

-- the first, if there is one, or else the second
abbrev pub first_of : Option Culprit → Option Culprit → Option Culprit
first_of (Some culprit) other = Some culprit
first_of None other = other

-- in a predicate
abbrev pub unknown_column : Scope → Predicate → Option Culprit
unknown_column scope (p.any span) = None
unknown_column scope (p.equality operator column literal span) = unless_known scope column
unknown_column scope (p.order operator column bound span) = unless_known scope column
unknown_column scope (p.between column low high span) = unless_known scope column
unknown_column scope (p.is_num column span) = unless_known scope column
unknown_column scope (p.joined operator left right span) =
    first_of (unknown_column scope left) (unknown_column scope right)
unknown_column scope (p.negated operand span) = unknown_column scope operand

-- in a rate
abbrev pub unknown_item : Scope → Rate → Option Culprit
unknown_item scope (r.eps span) = None
unknown_item scope (r.item predicate span) = unknown_column scope predicate
unknown_item scope (r.joined join left right span) =
    first_of (unknown_item scope left) (unknown_item scope right)
unknown_item scope (r.star operand span) = unknown_item scope operand

abbrev mutual
  -- in an expression
  pub unknown_name : Scope → Expression → Option Culprit
  unknown_name scope (e.number n) = None
  unknown_name scope (e.name name) = unless_known scope name
  unknown_name scope (e.unary operator operand span) = unknown_name scope operand
  unknown_name scope (e.binary operator left right span) =
      first_of (unknown_name scope left) (unknown_name scope right)
  unknown_name scope (e.choice operator left right at holds fails span) =
      first_of (first_of (unknown_name scope left) (unknown_name scope right))
      (first_of (unknown_name scope holds) (unknown_name scope fails))
  unknown_name scope (e.summary operator table span) = unless_known scope table
  unknown_name scope (e.extremum operator table first span) =
      first_of (unless_known scope table) (unknown_name scope first)
  unknown_name scope (e.get table key absent span) =
      first_of (unless_known scope table) (unknown_name scope absent)
  unknown_name scope (e.rec parts span) = unknown_part scope parts
  unknown_name scope (e.part whole index span) = unless_known scope whole

  -- in the parts of a record
  pub unknown_part : Scope → Expressions → Option Culprit
  unknown_part scope e.none = None
  unknown_part scope (e.more first others) =
      first_of (unknown_name scope first) (unknown_part scope others)
