use Rattle.std.proofs.Common.{◌≡◌, ◌≤◌, ◌-◌, length, min}
use Rattle.std.specs.Io.KnownBytes.{Consumes}
use Rattle.std.specs.Vec.{vec_capacity}
use Rattle.io_edge.proofs.limited_read.fill.Given as goal

-- what was taken so far are the bytes, with no end and no fault on the way
abbrev pub invariant-pieces : goal.invariant-pieces
invariant-pieces g l = record {
  in_range : length l.bytes.items ≤ l.limit;
  reserved : l.limit ≤ vec_capacity l.bytes;
  piece : length l.piece ≡ min l.limit 65536;
  taken : Consumes (g.S.Source.left l.fn.source) (g.S.Source.left l.source) l.bytes.items;
  no_end : g.S.Source.ends l.source ≡ g.S.Source.ends l.fn.source;
  no_fault : g.S.Source.faults l.source ≡ g.S.Source.faults l.fn.source;
}

abbrev pub decreases-pieces : goal.decreases-pieces
decreases-pieces g l = l.limit - length l.bytes.items
