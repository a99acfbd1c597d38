-- Statement. The name that a refusal is about, in the node that is refused: for the rule `name` the
-- first that is not known there, and for the rule `type` the first column whose kind does not fit.
-- A node of a let may be checked over items or over values. It was checked over values if the let
-- is used over values alone, or if nothing is wrong with the node over items.
use Rattle.std.specs.Prelude.{Option, None, Some, find, if◌then◌else◌}
use Rattle.std.specs.List.{list_any}
use Rattle.language_base.specs.declared.refusal.Refusal.{Refusal}
use Rattle.language_base.specs.declared.rule.Rule.{Rule}
use Rattle.language_base.specs.declared.rule.Rule.TheVariants as rule
use Rattle.language_base.specs.declared.span.Span.{Span}
use Rattle.query_syntax.specs.Expressions.{Expression}
use Rattle.query_syntax.specs.Predicates.{Predicate}
use Rattle.query_syntax.specs.Programs.{Let, Program}
use Rattle.query_syntax.specs.Queries as q
use Rattle.query_syntax.specs.Queries.{Query}
use Rattle.query_syntax.specs.Rates.{Rate}
use Rattle.query_syntax.specs.Spans.{query_span}
use Rattle.query_syntax.specs.Keys.{key_span, names_of}
use Rattle.query_syntax.specs.declared.key.Key.{Key}
use Rattle.explanation.specs.KeyNames.{misfit_name, named_twice, unknown_of}
use Rattle.explanation.specs.Misfits.{misfit_item, misfit_read, misfit_test}
use Rattle.explanation.specs.Scopes.{Scope, of_item, of_misread, of_mistyped, of_one, of_two}
use Rattle.explanation.specs.Scopes.{of_value}
use Rattle.explanation.specs.Spots.{has_in, is_at}
use Rattle.explanation.specs.Unknown.{first_of, unknown_column, unknown_item, unknown_name}
use Rattle.explanation.specs.Uses.{is_on_values}
use Rattle.explanation.specs.declared.culprit.Culprit.{Culprit}
use Rattle.explanation.specs.declared.culprit.Culprit.TheVariants.{Collected, NoLet, TwiceColumn}
use Rattle.explanation.specs.declared.culprit.Culprit.TheVariants.{TwiceLet}

-- in the name of a query
abbrev pub in_name : Rule → Span → Option Culprit
in_name rule.Name span = Some (NoLet span)
in_name _ span = None

-- in an atom
abbrev pub first_in_atom : Scope → Predicate → Expression → Option Culprit
first_in_atom scope predicate value =
    first_of (unknown_column scope predicate) (unknown_name scope value)

-- in an atom over values, a name that none of them have, or else the first, since of names that
-- other values have one may be meant that these have not
abbrev pub names_in_atom : Scope → Predicate → Expression → Option Culprit
names_in_atom of_value predicate value =
    first_of (first_in_atom of_value predicate value) (first_in_atom of_misread predicate value)
names_in_atom scope predicate value = first_in_atom scope predicate value

-- in an atom, a column whose kind does not fit; over values each name is that of one
abbrev pub kinds_in_atom : Scope → Predicate → Expression → Option Culprit
kinds_in_atom (of_item columns) predicate value =
    first_of (misfit_test columns predicate) (misfit_read columns value)
kinds_in_atom _ predicate value = first_in_atom of_mistyped predicate value

-- in an atom
abbrev pub in_atom : Rule → Scope → Predicate → Expression → Option Culprit
in_atom rule.Name scope predicate value = names_in_atom scope predicate value
in_atom rule.Mismatch scope predicate value = kinds_in_atom scope predicate value
in_atom _ scope predicate value = None

-- in an expression over the values of operands
abbrev pub in_fold : Rule → Scope → Expression → Option Culprit
in_fold rule.Name scope value = unknown_name scope value
in_fold _ scope value = None

-- in the key, the predicate for items of all keys and the rate of a collection, a column whose kind
-- does not fit; where all fit, the key, since what is collected does not
abbrev pub kinds_in_keys : Scope → Key → Predicate → Rate → Option Culprit
kinds_in_keys (of_item columns) key sync rate = first_of
    (first_of (misfit_name columns (names_of key))
    (first_of (misfit_test columns sync) (misfit_item columns rate)))
    (Some (Collected (key_span key)))
kinds_in_keys _ key sync rate = None

-- in the same parts, by the rule; of names that are all known one that stands twice in the key
abbrev pub in_keys : Rule → Scope → Key → Predicate → Rate → Option Culprit
in_keys rule.Name scope key sync rate =
    first_of (first_of (unknown_of scope (names_of key))
    (first_of (unknown_column scope sync) (unknown_item scope rate)))
    (named_twice (names_of key))
in_keys rule.Mismatch scope key sync rate = kinds_in_keys scope key sync rate
in_keys _ scope key sync rate = None

-- in a node without its operands
abbrev pub node_culprit : Rule → Scope → Query → Option Culprit
node_culprit rule scope (q.name name) = in_name rule name.span
node_culprit rule scope (q.atom predicate value span) = in_atom rule scope predicate value
node_culprit rule scope (q.eps number span) = None
node_culprit rule scope (q.or left right span) = None
node_culprit rule scope (q.split left right value span) = in_fold rule of_two value
node_culprit rule scope (q.iter operand first step span) = in_fold rule of_two step
node_culprit rule scope (q.combine left right value span) = in_fold rule of_two value
node_culprit rule scope (q.apply operand value span) = in_fold rule of_one value
node_culprit rule scope (q.compose left right span) = None
node_culprit rule scope (q.collect key sync rate operand span) = in_keys rule scope key sync rate

-- the same, if the node is the one that is refused
abbrev pub own_culprit : Refusal → Scope → Query → Option Culprit
own_culprit refusal scope query =
    if is_at (query_span query) refusal.span then node_culprit refusal.rule scope query else None

-- in a query over these columns: only the node that is refused counts
abbrev pub culprit_in : Refusal → Scope → Query → Option Culprit
culprit_in refusal scope (q.name name) = own_culprit refusal scope (q.name name)
culprit_in refusal scope (q.atom predicate value span) =
    own_culprit refusal scope (q.atom predicate value span)
culprit_in refusal scope (q.eps number span) = own_culprit refusal scope (q.eps number span)
culprit_in refusal scope (q.or left right span) =
    first_of (first_of (culprit_in refusal scope left) (culprit_in refusal scope right))
    (own_culprit refusal scope (q.or left right span))
culprit_in refusal scope (q.split left right value span) =
    first_of (first_of (culprit_in refusal scope left) (culprit_in refusal scope right))
    (own_culprit refusal scope (q.split left right value span))
culprit_in refusal scope (q.iter operand first step span) =
    first_of (culprit_in refusal scope operand)
    (own_culprit refusal scope (q.iter operand first step span))
culprit_in refusal scope (q.combine left right value span) =
    first_of (first_of (culprit_in refusal scope left) (culprit_in refusal scope right))
    (own_culprit refusal scope (q.combine left right value span))
culprit_in refusal scope (q.apply operand value span) =
    first_of (culprit_in refusal scope operand)
    (own_culprit refusal scope (q.apply operand value span))
culprit_in refusal scope (q.compose left right span) =
    first_of (culprit_in refusal scope left) (culprit_in refusal of_value right)
culprit_in refusal scope (q.collect key sync rate operand span) =
    first_of (culprit_in refusal scope operand)
    (own_culprit refusal scope (q.collect key sync rate operand span))

-- the query of a let, or the other one if there is no let
abbrev pub query_or : Option Let → Query → Query
query_or (Some one) other = one.query
query_or None other = other

-- the query in which the place lies
abbrev pub query_at : Program → Span → Query
query_at program place =
    query_or (find (λ one. has_in one.span place) program.lets) program.main.query

-- a column or a let with the name of an earlier one; the name of any other is never a refused place
abbrev pub declared_at : Program → Span → Option Culprit
declared_at program place =
    if list_any (λ c. is_at c.name.span place) program.stream.columns then Some (TwiceColumn place)
    else (if list_any (λ one. is_at one.name.span place) program.lets then Some (TwiceLet place)
    else None)

-- over the columns of the stream, unless the let is used over values alone
abbrev pub culprit_on_items : Program → Refusal → Option Culprit
culprit_on_items program refusal =
    if is_on_values refusal.span program then None
    else culprit_in refusal (of_item program.stream.columns) (query_at program refusal.span)

-- over values
abbrev pub culprit_on_values : Program → Refusal → Option Culprit
culprit_on_values program refusal = culprit_in refusal of_value (query_at program refusal.span)

-- the name that the refusal of this program is about, if it is about one
abbrev pub culprit_of : Program → Refusal → Option Culprit
culprit_of program refusal = first_of (declared_at program refusal.span)
    (first_of (culprit_on_items program refusal) (culprit_on_values program refusal))
