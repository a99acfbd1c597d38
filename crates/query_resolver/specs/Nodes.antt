-- Statement. The nodes of a query with their places, from left to right, each after those of its
-- operands.
use Rattle.std.specs.Prelude.{Bool, List, [], ◌∷◌, ◌++◌, Option, None, Some, if◌then◌else◌}
use Rattle.language_base.specs.declared.span.Span.{Span}
use Rattle.item_schema.specs.declared.column.Column.{Column}
use Rattle.query_model.specs.Queries.{Qre, atom, eps, choice, split, iter, combine, apply, compose}
use Rattle.query_model.specs.Queries.{collect}
use Rattle.query_model.specs.QueryTypes.{derived_columns, type_of}
use Rattle.query_model.specs.Rules.{Standing, bound}
use Rattle.query_syntax.specs.Queries as q
use Rattle.query_syntax.specs.Queries.{Query}

-- the places of a query's nodes: that of the root alone, or with those of one operand or of two
pub data Places : Type 0 where
  alone : Span → Places
  with_one : Places → Span → Places
  with_two : Places → Places → Span → Places

-- the place of the root
abbrev pub own_place : Places → Span
own_place (alone span) = span
own_place (with_one first span) = span
own_place (with_two first second span) = span

-- those of its first operand, where it has one
abbrev pub first_places : Places → Places
first_places (alone span) = alone span
first_places (with_one first span) = first
first_places (with_two first second span) = first

-- those of its second operand, where it has two
abbrev pub second_places : Places → Places
second_places (alone span) = alone span
second_places (with_one first span) = first
second_places (with_two first second span) = second

-- the places of a query as it is written
abbrev pub places_of : Query → Places
places_of (q.name name) = alone name.span
places_of (q.atom predicate value span) = alone span
places_of (q.eps number span) = alone span
places_of (q.or f g span) = with_two (places_of f) (places_of g) span
places_of (q.split f g value span) = with_two (places_of f) (places_of g) span
places_of (q.iter f first step span) = with_one (places_of f) span
places_of (q.combine f g value span) = with_two (places_of f) (places_of g) span
places_of (q.apply f value span) = with_one (places_of f) span
places_of (q.compose f g span) = with_two (places_of f) (places_of g) span
places_of (q.collect key sync rate f span) = with_one (places_of f) span

-- a node: the columns of its stream, whether it is free, the query that it is the root of, and its
-- place
pub record Node : Type 0 where
  pub columns : List Column
  pub standing : Standing
  pub query : Qre
  pub place : Span

-- the root of a query, as a node
abbrev pub root : List Column → Standing → Qre → Places → Node
root columns standing query places =
    record { columns = columns; standing = standing; query = query; place = own_place places }

-- the nodes of a query over these columns, free or bound, with these places; the places do not
-- change which nodes there are
abbrev pub nodes_in : List Column → Standing → Qre → Places → List Node
nodes_in columns standing (atom pred expression) places =
    root columns standing (atom pred expression) places ∷ []
nodes_in columns standing (eps number) places = root columns standing (eps number) places ∷ []
nodes_in columns standing (choice f g) places =
    nodes_in columns bound f (first_places places)
    ++ nodes_in columns bound g (second_places places)
    ++ root columns standing (choice f g) places ∷ []
nodes_in columns standing (split f g expression) places =
    nodes_in columns bound f (first_places places)
    ++ nodes_in columns bound g (second_places places)
    ++ root columns standing (split f g expression) places ∷ []
nodes_in columns standing (iter f number expression) places =
    nodes_in columns bound f (first_places places)
    ++ root columns standing (iter f number expression) places ∷ []
nodes_in columns standing (combine f g expression) places =
    nodes_in columns bound f (first_places places)
    ++ nodes_in columns bound g (second_places places)
    ++ root columns standing (combine f g expression) places ∷ []
nodes_in columns standing (apply f expression) places =
    nodes_in columns bound f (first_places places)
    ++ root columns standing (apply f expression) places ∷ []
nodes_in columns standing (compose f g) places =
    nodes_in columns standing f (first_places places)
    ++ nodes_in (derived_columns (type_of columns f)) standing g (second_places places)
    ++ root columns standing (compose f g) places ∷ []
nodes_in columns standing (collect chosen sync rate f) places =
    nodes_in columns bound f (first_places places)
    ++ root columns standing (collect chosen sync rate f) places ∷ []

-- the place of the first node that passes the test
abbrev pub first_where : (Node → Bool) → List Node → Option Span
first_where is_so (node ∷ nodes) = if is_so node then Some node.place else first_where is_so nodes
first_where is_so [] = None
