use Rattle.std.proofs.Common.{length, ◌+◌, ◌-◌, ◌≡◌, ◌≤◌, take}
use Rattle.std.specs.Io.KnownBytes.{Appends}
use Rattle.io_edge.proofs.sink.write_all.Given as goal

-- what was taken so far is the front of the bytes, no more than that is held back, and there was no
-- fault on the way
abbrev pub invariant-pieces : goal.invariant-pieces
invariant-pieces g l = record {
  in_range : l.done ≤ length l.bytes;
  written : Appends (g.W.Sink.taken l.fn.out) (g.W.Sink.taken l.out) (take l.done l.bytes);
  held : g.W.Sink.held l.out ≤ g.W.Sink.held l.fn.out + l.done;
  quiet : g.W.Sink.faults l.out ≡ g.W.Sink.faults l.fn.out;
}

abbrev pub decreases-pieces : goal.decreases-pieces
decreases-pieces g l = length l.bytes - l.done
