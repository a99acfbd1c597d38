-- Statement. Queries without composition and collection.
use Rattle.query_model.specs.Queries.{Qre, atom, eps, choice, split, iter, combine, apply, compose}
use Rattle.query_model.specs.Queries.{collect}

-- no compose and no collect stands in the query
abbrev pub HasPlainShapes : Qre → Type 0
HasPlainShapes (atom pred expression) = Unit {0}
HasPlainShapes (eps number) = Unit {0}
HasPlainShapes (choice f g) = HasPlainShapes f × HasPlainShapes g
HasPlainShapes (split f g expression) = HasPlainShapes f × HasPlainShapes g
HasPlainShapes (iter f number expression) = HasPlainShapes f
HasPlainShapes (combine f g expression) = HasPlainShapes f × HasPlainShapes g
HasPlainShapes (apply f expression) = HasPlainShapes f
HasPlainShapes (compose f g) = ⊥
HasPlainShapes (collect chosen sync rate f) = ⊥
