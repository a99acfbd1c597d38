-- Statement. Which queries a query may be rewritten as.
use Rattle.std.specs.Prelude.{◌≡◌, ◌≤◌, ◌⊎◌, ℕ, ℤ, false, List, []}
use Rattle.expressions.specs.declared.expr.Var.TheVariants.{Left}
use Rattle.expressions.specs.Expressions.{Expression, read}
use Rattle.predicates.specs.Predicates.{Predicate}
use Rattle.rate_expr.specs.Language.{In}
use Rattle.rate_expr.specs.Rates.{Regex}
use Rattle.query_model.specs.Bounds.{slots_of}
use Rattle.query_model.specs.Queries.{Qre, atom, choice, split, iter, combine, apply, compose}
use Rattle.query_model.specs.Queries.{collect}
use Rattle.query_model.specs.Rates.{rate_of}
use Rattle.query_rewrite.specs.Filling.{filled, names_left, reads_of}
use Rattle.query_rewrite.specs.Levels.{levels_of, max_levels}
use Rattle.query_rewrite.specs.Reducing.{reduced}

-- the left value is read at most once, as an operand
pub record IsReadOnce (expression : Expression) : Type 0 where
  pub once : reads_of expression ≤ 1
  pub operand : names_left expression ≡ false

-- Two expressions, of which the second is applied to what the first gives, may be made one. Where
-- the second reads its value twice the first would be computed twice, and a chain of such doubles
-- with each link.
pub record Merge (inner outer : Expression) : Type 0 where
  pub levels : levels_of (filled inner outer) ≤ max_levels
  pub once : (inner ≡ read Left) ⊎ IsReadOnce outer

-- Three queries, each of which reads the values of the one before, may be grouped from the left. If
-- the middle one had a value on no items, the last one would read it before all others where they
-- are grouped from the right, and not at all where they are grouped from the left.
pub record Turn (f g h : Qre) : Type 0 where
  pub fed : In (rate_of g) [] → ⊥
  pub slots : slots_of (compose (compose f g) h) ≤ slots_of (compose f (compose g h))

-- the first query may be rewritten as the second
pub data Rewrites : Qre → Qre → Type 0 where
  -- not at all, or in one way and then in another
  same : (q : Qre) → Rewrites q q
  twice : (p q r : Qre) → Rewrites p q → Rewrites q r → Rewrites p r
  -- the rules
  merged : (f : Qre) (e d : Expression) → Merge e d
      → Rewrites (apply (apply f e) d) (apply f (filled e d))
  turned_choice : (f g h : Qre) → Rewrites (choice (choice f g) h) (choice f (choice g h))
  turned_compose : (f g h : Qre) → Turn f g h
      → Rewrites (compose f (compose g h)) (compose (compose f g) h)
  -- an expression is reduced
  reduced_atom : (pred : Predicate) (e : Expression)
      → Rewrites (atom pred e) (atom pred (reduced e))
  reduced_split : (f g : Qre) (e : Expression) → Rewrites (split f g e) (split f g (reduced e))
  reduced_iter : (f : Qre) (number : ℤ) (e : Expression)
      → Rewrites (iter f number e) (iter f number (reduced e))
  reduced_combine : (f g : Qre) (e : Expression)
      → Rewrites (combine f g e) (combine f g (reduced e))
  reduced_apply : (f : Qre) (e : Expression) → Rewrites (apply f e) (apply f (reduced e))
  -- operands are rewritten
  in_choice : (f f' g g' : Qre) → Rewrites f f' → Rewrites g g'
      → Rewrites (choice f g) (choice f' g')
  in_split : (f f' g g' : Qre) (e : Expression) → Rewrites f f' → Rewrites g g'
      → Rewrites (split f g e) (split f' g' e)
  in_iter : (f f' : Qre) (number : ℤ) (e : Expression) → Rewrites f f'
      → Rewrites (iter f number e) (iter f' number e)
  in_combine : (f f' g g' : Qre) (e : Expression) → Rewrites f f' → Rewrites g g'
      → Rewrites (combine f g e) (combine f' g' e)
  in_apply : (f f' : Qre) (e : Expression) → Rewrites f f' → Rewrites (apply f e) (apply f' e)
  in_compose : (f f' g g' : Qre) → Rewrites f f' → Rewrites g g'
      → Rewrites (compose f g) (compose f' g')
  in_collect : (chosen : List ℕ) (sync : Predicate) (rate : Regex) (f f' : Qre) → Rewrites f f'
      → Rewrites (collect chosen sync rate f) (collect chosen sync rate f')
