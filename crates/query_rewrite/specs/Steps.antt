-- For the prover. The query that a query is rewritten as, operands first.
use Rattle.std.specs.Prelude.{◌+◌, ◌*◌, Bool, true, false, not, ◌&&◌, ◌||◌, nat_le}
use Rattle.std.specs.Prelude.{if◌then◌else◌}
use Rattle.expressions.specs.Expressions.{Expression, read}
use Rattle.rate_expr.specs.Rates as rate
use Rattle.rate_expr.specs.Rates.{Regex}
use Rattle.query_model.specs.Bounds.{places_of, slots_of, width_of}
use Rattle.query_model.specs.Queries.{Qre, atom, eps, choice, split, iter, combine, apply, compose}
use Rattle.query_model.specs.Queries.{collect}
use Rattle.query_model.specs.Rates.{rate_of}
use Rattle.query_rewrite.specs.Counting.{is_read_once, reading_of}
use Rattle.query_rewrite.specs.Filling.{filled, is_left}
use Rattle.query_rewrite.specs.Levels.{levels_of, max_levels}
use Rattle.query_rewrite.specs.Reducing.{reduced}

-- the expression is the left value itself
abbrev pub is_left_value : Expression → Bool
is_left_value (read name) = is_left name
is_left_value _ = false

-- two expressions are made one
abbrev pub merge : Expression → Expression → Bool
merge inner outer = (is_left_value inner || is_read_once (reading_of outer))
    && nat_le (levels_of (filled inner outer)) max_levels

-- the expression that is made of both
abbrev pub merged : Expression → Expression → Expression
merged inner outer =
    if is_left_value outer then inner
    else if is_left_value inner then outer
    else reduced (filled inner outer)

-- the empty word is in the rate
abbrev pub has_empty : Regex → Bool
has_empty rate.empty = true
has_empty (rate.one pred) = false
has_empty (rate.sequence left right) = has_empty left && has_empty right
has_empty (rate.choice left right) = has_empty left || has_empty right
has_empty (rate.star inner) = true

-- a composition with a composition of these two on its right is grouped from the left
abbrev pub turn : Qre → Qre → Bool
turn g h = not (has_empty (rate_of g))
    && nat_le (width_of g) (width_of h + places_of g * (slots_of h + 1))

-- a choice between the alternatives of the first and the second
abbrev pub chosen : Qre → Qre → Qre
chosen (choice f g) h = choice f (chosen g h)
chosen f h = choice f h

-- the second on the values of the first
abbrev pub fed : Qre → Qre → Qre
fed f (compose g h) = if turn g h then compose (fed f g) h else compose f (compose g h)
fed f g = compose f g

-- the expression on the value of the query
abbrev pub applied : Qre → Expression → Qre
applied (apply f e) d =
    if merge e d then applied f (merged e d) else apply (apply f e) d
applied f d = apply f d

-- all rules at all nodes
abbrev pub rewritten : Qre → Qre
rewritten (atom pred e) = atom pred (reduced e)
rewritten (eps number) = eps number
rewritten (choice f g) = chosen (rewritten f) (rewritten g)
rewritten (split f g e) = split (rewritten f) (rewritten g) (reduced e)
rewritten (iter f number e) = iter (rewritten f) number (reduced e)
rewritten (combine f g e) = combine (rewritten f) (rewritten g) (reduced e)
rewritten (apply f e) = applied (rewritten f) (reduced e)
rewritten (compose f g) = fed (rewritten f) (rewritten g)
rewritten (collect columns sync rate f) = collect columns sync rate (rewritten f)
