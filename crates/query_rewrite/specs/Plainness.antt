-- Statement. Queries at no node of which a rule of rewriting applies.
use Rattle.query_model.specs.Queries.{Qre, atom, eps, choice, split, iter, combine, apply, compose}
use Rattle.query_model.specs.Queries.{collect}
use Rattle.query_rewrite.specs.Reducing.{IsReduced}
use Rattle.query_rewrite.specs.Rewriting.{Merge, Turn}

-- a rule for nodes applies at the root
abbrev pub IsRewritable : Qre → Type 0
IsRewritable (apply (apply f e) d) = Merge e d
IsRewritable (choice (choice f g) h) = Unit {0}
IsRewritable (compose f (compose g h)) = Turn f g h
IsRewritable _ = ⊥

-- no rule applies at any node, nor in any expression
abbrev pub IsPlain : Qre → Type 0
IsPlain (atom pred expression) = IsReduced expression
IsPlain (eps number) = Unit {0}
IsPlain (choice f g) = (IsRewritable (choice f g) → ⊥) × IsPlain f × IsPlain g
IsPlain (split f g expression) = IsPlain f × IsPlain g × IsReduced expression
IsPlain (iter f number expression) = IsPlain f × IsReduced expression
IsPlain (combine f g expression) = IsPlain f × IsPlain g × IsReduced expression
IsPlain (apply f expression) =
    (IsRewritable (apply f expression) → ⊥) × IsPlain f × IsReduced expression
IsPlain (compose f g) = (IsRewritable (compose f g) → ⊥) × IsPlain f × IsPlain g
IsPlain (collect chosen sync rate f) = IsPlain f
