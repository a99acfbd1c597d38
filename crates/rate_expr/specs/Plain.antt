-- Statement. A rate in memory as an expression.
use Rattle.predicates.specs.Plain as predicate
use Rattle.rate_expr.specs.Rates as plain
use Rattle.rate_expr.specs.declared.rate.Rate.{Rate}
use Rattle.rate_expr.specs.declared.rate.Rate.TheVariants.{Empty, One, Seq', Alt', Star'}

abbrev pub plain_of : Rate → plain.Regex
plain_of Empty = plain.empty
plain_of (One pred) = plain.one (predicate.plain_of pred)
plain_of (Seq' p first q second) = plain.sequence (plain_of first) (plain_of second)
plain_of (Alt' p first q second) = plain.choice (plain_of first) (plain_of second)
plain_of (Star' p inner) = plain.star (plain_of inner)
