-- For the prover. The calls that are predicates.
use Rattle.std.specs.Prelude.{ℕ, List, [], ◌∷◌, codes}
use Rattle.query_forms.specs.declared.term_place.TermPlace.{TermPlace}
use Rattle.query_forms.specs.declared.term_place.TermPlace.TheVariants as place
use Rattle.query_syntax.specs.declared.operator.Equality.TheVariants as equality
use Rattle.query_syntax.specs.declared.operator.Order.TheVariants as order
use Rattle.query_syntax.specs.declared.operator.Connective.TheVariants.{And, Or}
use Rattle.query_syntax.specs.declared.predicate_head.PredicateHead.{PredicateHead}
use Rattle.query_syntax.specs.declared.predicate_head.PredicateHead.TheVariants as head
use Rattle.query_syntax.specs.Rows.{Row, rows_of}
use Rattle.query_syntax.specs.Words.{equality_word, order_word, connective_word}

-- the head word of each
abbrev pub predicate_word : PredicateHead → List ℕ
predicate_word (head.Equality equality) = equality_word equality
predicate_word (head.Order order) = order_word order
predicate_word head.Between = codes "between"
predicate_word head.IsNum = codes "isnum"
predicate_word (head.Joined connective) = connective_word connective
predicate_word head.Not = codes "not"

-- and the places of its arguments
abbrev pub predicate_places : PredicateHead → List TermPlace
predicate_places (head.Equality equality) = place.Name ∷ place.Literal ∷ []
predicate_places (head.Order order) = place.Name ∷ place.Number ∷ []
predicate_places head.Between = place.Name ∷ place.Number ∷ place.Number ∷ []
predicate_places head.IsNum = place.Name ∷ []
predicate_places (head.Joined connective) = place.Pred ∷ place.Pred ∷ []
predicate_places head.Not = place.Pred ∷ []

-- all calls that are predicates
abbrev pub predicate_heads : List PredicateHead
predicate_heads =
    head.Equality equality.Eq
    ∷ head.Equality equality.Ne
    ∷ head.Order order.Lt
    ∷ head.Order order.Le
    ∷ head.Order order.Gt
    ∷ head.Order order.Ge
    ∷ head.Between
    ∷ head.IsNum
    ∷ head.Joined And
    ∷ head.Joined Or
    ∷ head.Not
    ∷ []

abbrev pub predicates : List (Row PredicateHead)
predicates = rows_of predicate_word predicate_places predicate_heads
