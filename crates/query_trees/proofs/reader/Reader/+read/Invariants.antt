-- a term takes tokens away, so that of a call with a term there are fewer
use Rattle.std.proofs.Common.{◌+◌, ◌*◌, ◌≤◌, length}
use Rattle.query_trees.proofs.Reading.{LeftInCall}
use Rattle.query_trees.proofs.reader.Reader.+read.Given as goal

abbrev pub decreases-arguments : goal.decreases-arguments
decreases-arguments l = 2 * length l.self.now.rest.now + 1

abbrev pub decreases-term : goal.decreases-term
decreases-term l = 2 * length l.self.now.rest.now

-- the arguments so far are read, and the others are left
abbrev pub invariant-arguments-arguments : goal.invariant-arguments-arguments
invariant-arguments-arguments l = record {
  left : LeftInCall l.level l.trees.items l.fn.self.rest.now l.self.rest.now;
  shorter : length l.self.rest.now ≤ length l.fn.self.rest.now;
}

abbrev pub decreases-arguments-arguments : goal.decreases-arguments-arguments
decreases-arguments-arguments l = length l.self.rest.now
