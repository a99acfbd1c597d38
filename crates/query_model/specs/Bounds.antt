-- Statement. How many starts of a query may live at one time, and how much is kept for them.
use Rattle.std.specs.Prelude.{ℕ, ◌+◌, ◌*◌}
use Rattle.expressions.specs.declared.expr.Var.TheVariants as var
use Rattle.expressions.specs.Expressions as expr
use Rattle.expressions.specs.Expressions.{Expression, count_of}
use Rattle.rate_expr.specs.Rates.{size_of}
use Rattle.query_model.specs.Queries.{Qre, atom, eps, choice, split, iter, combine, apply, compose}
use Rattle.query_model.specs.Queries.{collect}

-- the starts that may live at one time
abbrev pub places_of : Qre → ℕ
places_of (atom pred expression) = 1
places_of (eps number) = 0
places_of (choice f g) = places_of f + places_of g
places_of (split f g expression) = places_of f + places_of g
places_of (iter f number expression) = places_of f
places_of (combine f g expression) = places_of f + places_of g
places_of (apply f expression) = places_of f
places_of (compose f g) = places_of f
places_of (collect chosen sync rate f) = size_of rate + 1

-- the width of an expression, from those of its left and its right value
abbrev pub width_with : ℕ → ℕ → Expression → ℕ
width_with left right (expr.read var.Left) = left
width_with left right (expr.read var.Right) = right
width_with left right (expr.rec parts) = count_of parts
width_with left right _ = 1

-- the width of a query: how many numbers its values have as records, and 1 where they are none
abbrev pub width_of : Qre → ℕ
width_of (atom pred expression) = width_with 1 1 expression
width_of (eps number) = 1
width_of (choice f g) = width_of f
width_of (split f g expression) = width_with (width_of f) (width_of g) expression
width_of (iter f number expression) = 1
width_of (combine f g expression) = width_with (width_of f) (width_of g) expression
width_of (apply f expression) = width_with (width_of f) 1 expression
width_of (compose f g) = width_of g
width_of (collect chosen sync rate f) = 1

-- what a node of the query keeps; one that follows a word keeps its position and its answer besides
abbrev pub inner_of : Qre → ℕ
inner_of (atom pred expression) = 1
inner_of (eps number) = 0
inner_of (choice f g) = inner_of f + inner_of g
inner_of (split f g expression) = inner_of f + inner_of g + (2 + width_of f) * places_of g
inner_of (iter f number expression) = inner_of f + 3 * places_of f
inner_of (combine f g expression) = inner_of f + inner_of g
inner_of (apply f expression) = inner_of f
inner_of (compose f g) = inner_of f + (places_of f + 1) * (1 + (inner_of g + 1 + width_of g))
inner_of (collect chosen sync rate f) =
    (size_of rate + 1) * (1 + size_of rate + (inner_of f + 1 + width_of f))

abbrev pub slots_of : Qre → ℕ
slots_of query = inner_of query + 1 + width_of query

-- the nodes of the query
abbrev pub nodes_of : Qre → ℕ
nodes_of (atom pred expression) = 1
nodes_of (eps number) = 1
nodes_of (choice f g) = nodes_of f + nodes_of g + 1
nodes_of (split f g expression) = nodes_of f + nodes_of g + 1
nodes_of (iter f number expression) = nodes_of f + 1
nodes_of (combine f g expression) = nodes_of f + nodes_of g + 1
nodes_of (apply f expression) = nodes_of f + 1
nodes_of (compose f g) = nodes_of f + nodes_of g + 1
nodes_of (collect chosen sync rate f) = nodes_of f + 1
