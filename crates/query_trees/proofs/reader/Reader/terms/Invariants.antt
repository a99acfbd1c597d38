-- the terms so far are read, and the others are left
use Rattle.std.proofs.Common.{length}
use Rattle.query_trees.proofs.Reading.{LeftOutside}
use Rattle.query_trees.proofs.reader.Reader.terms.Given as goal

abbrev pub invariant-terms : goal.invariant-terms
invariant-terms l = LeftOutside l.trees.items l.fn.self.rest.now l.self.rest.now

abbrev pub decreases-terms : goal.decreases-terms
decreases-terms l = length l.self.rest.now
