-- Statement. A second place that helps to understand a refusal: where a let is used so that its
-- query stands inside of another, or what in the right operand of a composition leaves lists of
-- values without a value.
use Rattle.std.specs.Prelude.{ℕ, List, Option, None, Some, option_map, if◌then◌else◌}
use Rattle.language_base.specs.declared.refusal.Refusal.{Refusal}
use Rattle.language_base.specs.declared.rule.Rule.{Rule}
use Rattle.language_base.specs.declared.rule.Rule.TheVariants as rule
use Rattle.language_base.specs.declared.span.Span.{Span}
use Rattle.query_syntax.specs.Predicates as p
use Rattle.query_syntax.specs.Predicates.{Predicate}
use Rattle.query_syntax.specs.Programs.{Program}
use Rattle.query_syntax.specs.Queries as q
use Rattle.query_syntax.specs.Queries.{Query}
use Rattle.query_syntax.specs.Spans.{predicate_span}
use Rattle.explanation.specs.Culprits.{culprit_on_items, culprit_on_values, query_at}
use Rattle.explanation.specs.Spots.{is_at}
use Rattle.explanation.specs.Uses.{first_use}
use Rattle.explanation.specs.declared.aside.Aside.{Aside}
use Rattle.explanation.specs.declared.aside.Aside.TheVariants.{Use, Test, Single}
use Rattle.explanation.specs.declared.culprit.Culprit.{Culprit}
use Rattle.explanation.specs.declared.parts.TheConstants as words
use Rattle.explanation.specs.declared.uses.Inside.{Inside}
use Rattle.explanation.specs.declared.uses.Inside.TheVariants.{Compositions, Collections}

-- what is said about the place
unfoldable pub said_of_place : Aside → List ℕ
said_of_place (Use span) = words.USED_HERE.now
said_of_place (Test span) = words.UNMET.now
said_of_place (Single span) = words.SINGLE_VALUE.now

-- the place
abbrev pub place_aside : Aside → Span
place_aside (Use span) = span
place_aside (Test span) = span
place_aside (Single span) = span

-- a predicate that some value may not meet, as a place
abbrev pub test_in : Predicate → Option Aside
test_in (p.any span) = None
test_in predicate = Some (Test (predicate_span predicate))

-- such a predicate of an atom, the values of which are iterated
abbrev pub test_of : Query → Option Aside
test_of (q.atom predicate value span) = test_in predicate
test_of _ = None

-- what in the right operand of a composition leaves lists of values without a value
abbrev pub lack_of : Query → Option Aside
lack_of (q.atom predicate value span) = Some (Single span)
lack_of (q.iter operand first step span) = test_of operand
lack_of (q.apply operand value span) = lack_of operand
lack_of _ = None

-- the first, if there is one, or else the second
abbrev pub aside_or : Option Aside → Option Aside → Option Aside
aside_or (Some aside) other = Some aside
aside_or None other = other

-- the same for the composition at the place
abbrev pub lack_at : Span → Query → Option Aside
lack_at place (q.name name) = None
lack_at place (q.atom predicate value span) = None
lack_at place (q.eps number span) = None
lack_at place (q.or f g span) = aside_or (lack_at place f) (lack_at place g)
lack_at place (q.split f g value span) = aside_or (lack_at place f) (lack_at place g)
lack_at place (q.iter f first step span) = lack_at place f
lack_at place (q.combine f g value span) = aside_or (lack_at place f) (lack_at place g)
lack_at place (q.apply f value span) = lack_at place f
lack_at place (q.compose f g span) =
    if is_at span place then lack_of g else aside_or (lack_at place f) (lack_at place g)
lack_at place (q.collect key sync rate f span) = lack_at place f

-- Where the use of a let is wrong: in right operands of compositions, if its query is refused on
-- values but not on items.
abbrev pub values_for : Option Culprit → Option Culprit → Option Inside
values_for None (Some culprit) = Some Compositions
values_for _ _ = None

-- the first use of a let inside of these
abbrev pub use_inside : Option Inside → Program → Span → Option Aside
use_inside (Some inside) program place = option_map Use (first_use inside place program)
use_inside None program place = None

-- the place that helps to understand a refusal by this rule
abbrev pub aside_for : Rule → Program → Refusal → Option Aside
aside_for rule.Name program refusal = use_inside
    (values_for (culprit_on_items program refusal) (culprit_on_values program refusal))
    program refusal.span
aside_for rule.Mismatch program refusal = use_inside
    (values_for (culprit_on_items program refusal) (culprit_on_values program refusal))
    program refusal.span
aside_for rule.Nested program refusal = use_inside (Some Collections) program refusal.span
aside_for rule.Compose program refusal = lack_at refusal.span (query_at program refusal.span)
aside_for _ program refusal = None

-- the place that helps to understand the refusal of this program, if there is one
abbrev pub aside_of : Program → Refusal → Option Aside
aside_of program refusal = aside_for refusal.rule program refusal
