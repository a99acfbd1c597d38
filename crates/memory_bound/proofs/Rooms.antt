-- What is kept for a part of a query is a part of what is kept for the whole.
use Rattle.std.proofs.Common.{◌≤◌, ℕ, ◌+◌, ◌*◌, arith, List}
use Rattle.std.proofs.Math.Nat.{add-mul, mul-le-mul_left}
use Rattle.predicates.specs.Predicates.{Predicate}
use Rattle.rate_expr.specs.Rates as rate
use Rattle.rate_expr.specs.Rates.{size_of}
use Rattle.query_model.specs.Bounds.{inner_of, places_of, width_of}
use Rattle.query_model.specs.Queries.{Qre, atom, eps, choice, split, iter, combine, apply, compose}
use Rattle.query_model.specs.Queries.{collect}

-- one of this many, and this many of at least one
pub once_of : (count each : ℕ) → each ≤ (count + 1) * each
once_of count each = let parts = add-mul count 1 each in omega (arith, parts)

pub count_of : (count each : ℕ) → 1 ≤ each → count + 1 ≤ (count + 1) * each
count_of count each some =
    let all : (count + 1) * 1 ≤ (count + 1) * each = mul-le-mul_left (count + 1) some in
    omega (arith, all)

-- each start that may live is kept
pub places_inner : (q : Qre) → places_of q ≤ inner_of q
places_inner (atom pred e) = omega arith
places_inner (eps number) = omega arith
places_inner (choice f g) =
    let first = places_inner f in let second = places_inner g in omega (arith, first, second)
places_inner (split f g e) =
    let first = places_inner f in let second = places_inner g in omega (arith, first, second)
places_inner (iter f number e) = let first = places_inner f in omega (arith, first)
places_inner (combine f g e) =
    let first = places_inner f in let second = places_inner g in omega (arith, first, second)
places_inner (apply f e) = places_inner f
places_inner (compose f g) =
    let first = places_inner f in omega (arith, first)
places_inner (collect chosen sync rate f) =
    count_of (size_of rate) (1 + size_of rate + (inner_of f + 1 + width_of f)) (omega arith)

-- a right operand of a compose is kept whole, and so is the body of a collect
pub right_inner : (f g : Qre) → inner_of g + 1 + width_of g ≤ inner_of (compose f g)
right_inner f g =
    let one = once_of (places_of f) (1 + (inner_of g + 1 + width_of g)) in omega (arith, one)

pub body_inner : (chosen : List ℕ) (sync : Predicate) (rate : rate.Regex) (f : Qre)
    → inner_of f + 1 + width_of f ≤ inner_of (collect chosen sync rate f)
body_inner chosen sync rate f =
    let one = once_of (size_of rate) (1 + size_of rate + (inner_of f + 1 + width_of f)) in
    omega (arith, one)
