-- For the prover. Whether a collection may stand at a place, as it lies in memory.
use Rattle.query_resolver.specs.Resolved.{Nesting, inside, outside}
use Rattle.query_resolver.specs.declared.nesting.Nesting as memory
use Rattle.query_resolver.specs.declared.nesting.Nesting.TheVariants.{Inside, Outside}

-- whether it may
abbrev pub nesting_of : memory.Nesting → Nesting
nesting_of Outside = outside
nesting_of Inside = inside
