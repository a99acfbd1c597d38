-- Statement. A `Pred` in memory as a predicate.
use Rattle.predicates.specs.Predicates as plain
use Rattle.predicates.specs.declared.pred.Pred.{Pred}
use Rattle.predicates.specs.declared.pred.Pred.TheVariants.{Any, Eq, Ne, Lt, Le, Gt, Ge}
use Rattle.predicates.specs.declared.pred.Pred.TheVariants.{Between, EqText, NeText, IsNum}
use Rattle.predicates.specs.declared.pred.Pred.TheVariants.{And', Or', Not'}

abbrev pub plain_of : Pred → plain.Predicate
plain_of Any = plain.any
plain_of (Eq column number) = plain.eq column number
plain_of (Ne column number) = plain.ne column number
plain_of (Lt column number) = plain.lt column number
plain_of (Le column number) = plain.le column number
plain_of (Gt column number) = plain.gt column number
plain_of (Ge column number) = plain.ge column number
plain_of (Between column low high) = plain.between column low high
plain_of (EqText column text) = plain.eq_text column text
plain_of (NeText column text) = plain.ne_text column text
plain_of (IsNum column) = plain.is_num column
plain_of (And' p first q second) = plain.conjunction (plain_of first) (plain_of second)
plain_of (Or' p first q second) = plain.disjunction (plain_of first) (plain_of second)
plain_of (Not' p inner) = plain.negation (plain_of inner)
