use Rattle.std.proofs.Common.{map, take}
use Rattle.query_syntax.specs.Plain.{plain_let}
use Rattle.query_lets.specs.Outlines.{AreOutlines}
use Rattle.query_lets.specs.Unfolded.{bindings_of}
use Rattle.query_lets.proofs.outline.outlines_of.Given as goal

-- the outlines of the lets so far
abbrev pub invariant-lets : goal.invariant-lets
invariant-lets l = AreOutlines l.outlines (bindings_of (map plain_let (take l.one-index l.lets)))
