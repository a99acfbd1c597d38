-- Statement. Quantitative regular expressions, without where they lie in memory.
use Rattle.std.specs.Prelude.{ℕ, ℤ, List, ◌∷◌, [], ◌++◌}
use Rattle.language_base.specs.declared.span.Span.{Span}
use Rattle.expressions.specs.Expressions as values
use Rattle.predicates.specs.Plain as predicates
use Rattle.predicates.specs.Predicates.{Predicate}
use Rattle.rate_expr.specs.Plain as rates
use Rattle.rate_expr.specs.Rates as rate
use Rattle.query_model.specs.declared.query.Shape.{Shape}
use Rattle.query_model.specs.declared.query.Shape.TheVariants.{Atom, Eps, Or', Split', Iter'}
use Rattle.query_model.specs.declared.query.Shape.TheVariants.{Combine', Apply', Compose', Collect'}

-- a query of one of the nine shapes
pub data Qre : Type 0 where
  -- one item that meets the predicate, and what the expression gives on it
  atom : Predicate → values.Expression → Qre
  -- the empty word, and a number
  eps : ℤ → Qre
  -- either of two
  choice : Qre → Qre → Qre
  -- one and then another, and what the expression gives on both values
  split : Qre → Qre → values.Expression → Qre
  -- pieces one after the other, folded by the expression from a number on
  iter : Qre → ℤ → values.Expression → Qre
  -- two on the same word, and what the expression gives on both values
  combine : Qre → Qre → values.Expression → Qre
  -- what the expression gives on the value
  apply : Qre → values.Expression → Qre
  -- a query on the values of another
  compose : Qre → Qre → Qre
  -- For each key in one or several columns the value on the items with this key and on those that
  -- meet the predicate, on the words of the rate
  collect : List ℕ → Predicate → rate.Regex → Qre → Qre

-- the query of a shape
abbrev pub plain_of : Shape → Qre
plain_of (Atom pred value) = atom (predicates.plain_of pred) (values.plain_of value)
plain_of (Eps number) = eps number
plain_of (Or' p first a q second b) = choice (plain_of first) (plain_of second)
plain_of (Split' p first a q second b value) =
    split (plain_of first) (plain_of second) (values.plain_of value)
plain_of (Iter' p inner a number value) = iter (plain_of inner) number (values.plain_of value)
plain_of (Combine' p first a q second b value) =
    combine (plain_of first) (plain_of second) (values.plain_of value)
plain_of (Apply' p inner a value) = apply (plain_of inner) (values.plain_of value)
plain_of (Compose' p first a q second b) = compose (plain_of first) (plain_of second)
plain_of (Collect' columns sync rate p inner a) =
    collect columns (predicates.plain_of sync) (rates.plain_of rate) (plain_of inner)

-- the places of the operands of a shape, each after those of its own operands
abbrev pub spans_of : Shape → List Span
spans_of (Atom pred value) = []
spans_of (Eps number) = []
spans_of (Or' p first a q second b) = spans_of first ++ a ∷ spans_of second ++ b ∷ []
spans_of (Split' p first a q second b value) = spans_of first ++ a ∷ spans_of second ++ b ∷ []
spans_of (Iter' p inner a number value) = spans_of inner ++ a ∷ []
spans_of (Combine' p first a q second b value) = spans_of first ++ a ∷ spans_of second ++ b ∷ []
spans_of (Apply' p inner a value) = spans_of inner ++ a ∷ []
spans_of (Compose' p first a q second b) = spans_of first ++ a ∷ spans_of second ++ b ∷ []
spans_of (Collect' columns sync rate p inner a) = spans_of inner ++ a ∷ []
