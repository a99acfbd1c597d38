-- For the prover. Whether a composition is free at a place, as it lies in memory.
use Rattle.query_model.specs.Rules.{Standing, bound, free}
use Rattle.type_checker.specs.declared.standing.Standing as memory
use Rattle.type_checker.specs.declared.standing.Standing.TheVariants.{Bound, Free}

-- free or bound
abbrev pub standing_of : memory.Standing → Standing
standing_of Free = free
standing_of Bound = bound
