-- For the prover. Queries that apply an expression.
use Rattle.query_model.specs.declared.query.Shape.{Shape}
use Rattle.query_model.specs.declared.query.Shape.TheVariants.{Apply'}

-- the shape is an apply
abbrev pub IsApply : Shape → Type 0
IsApply (Apply' p inner a value) = Unit {0}
IsApply _ = ⊥
