-- For the prover. From which positions a path leads to an end, said by masks alone.
use Rattle.std.specs.Prelude.{ℕ, zero, suc}
use Rattle.rate_expr.specs.Paths.{Follows}
use Rattle.rate_expr.specs.Sets.{Sets, Has}

-- some target may follow the position
abbrev pub ComesBefore : Sets → ℕ → ℕ → Type 0
ComesBefore sets targets position = (next : ℕ) × Follows sets position next × Has targets next

-- a path of `steps` steps leads from this position, through positions of the mask, to one where
-- words may end
abbrev pub LeadsThrough : Sets → ℕ → ℕ → ℕ → Type 0
LeadsThrough sets mask position zero = Has mask position × Has sets.last position
LeadsThrough sets mask position (suc steps) = Has mask position
    × (next : ℕ) × Follows sets position next × LeadsThrough sets mask next steps

-- a path of any number of steps does
abbrev pub EndsThrough : Sets → ℕ → ℕ → Type 0
EndsThrough sets mask position = (steps : ℕ) × LeadsThrough sets mask position steps
