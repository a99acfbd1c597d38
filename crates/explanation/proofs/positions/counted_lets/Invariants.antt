use Rattle.std.proofs.Common.{map, take}
use Rattle.query_syntax.specs.Plain.{plain_let}
use Rattle.query_lets.specs.Unfolded.{bindings_of}
use Rattle.explanation.specs.Counted.{AreCounted}
use Rattle.explanation.proofs.positions.counted_lets.Given as goal

-- the positions of the lets so far
abbrev pub invariant-lets : goal.invariant-lets
invariant-lets l = AreCounted l.counted (bindings_of (map plain_let (take l.one-index l.lets)))
