-- Statement. How many positions a query's rate has: one for each atom, or for each item of a
-- written rate.
use Rattle.std.specs.Prelude.{ℕ, ◌+◌, Option, None, Some, nat_le, if◌then◌else◌}
use Rattle.language_base.specs.Limits.{max_positions}
use Rattle.query_syntax.specs.Queries as q
use Rattle.query_syntax.specs.Queries.{Query}
use Rattle.query_syntax.specs.Rates as r
use Rattle.query_syntax.specs.Rates.{Rate}

-- the items of a rate as it is written
abbrev pub items_of : Rate → ℕ
items_of (r.eps span) = 0
items_of (r.item predicate span) = 1
items_of (r.joined join a b span) = items_of a + items_of b
items_of (r.star a span) = items_of a

-- the count, unless it is more than a rate may have
abbrev pub few : ℕ → Option ℕ
few count = if nat_le count max_positions then Some count else None

-- the positions of both operands together
abbrev pub in_both : Option ℕ → Option ℕ → Option ℕ
in_both (Some left) (Some right) = few (left + right)
in_both _ _ = None

-- those of the left operand, unless the right one has too many
abbrev pub in_left : Option ℕ → Option ℕ → Option ℕ
in_left left (Some right) = left
in_left left None = None

-- the positions of a query's rate, unless some node's rate has too many
abbrev pub few_positions : Query → Option ℕ
few_positions (q.name name) = Some 0
few_positions (q.atom predicate value span) = Some 1
few_positions (q.eps number span) = Some 0
few_positions (q.or f g span) = in_both (few_positions f) (few_positions g)
few_positions (q.split f g value span) = in_both (few_positions f) (few_positions g)
few_positions (q.iter f first step span) = few_positions f
few_positions (q.combine f g value span) = in_left (few_positions f) (few_positions g)
few_positions (q.apply f value span) = few_positions f
few_positions (q.compose f g span) = in_left (few_positions f) (few_positions g)
few_positions (q.collect key sync rate f span) = in_left (few (items_of rate)) (few_positions f)
