use Rattle.std.proofs.Common.{◌≡◌, ◌≤◌, length, vec_len, vec_capacity}
use Rattle.std.specs.Io.KnownBytes.{Keeps, append_known}
use Rattle.io_edge.specs.Limits.{max_held}
use Rattle.io_edge.proofs.held_bytes.HeldBytes.flush_all.Given as goal

-- what the writer holds and what is held back are the same bytes as at first, with no
-- fault on the way
abbrev pub invariant-pieces : goal.invariant-pieces
invariant-pieces g l =
    let held = l.self-inside.bytes in
    record {
      kept : Keeps (append_known (g.O.Write.contents l.fn.output) l.fn.self)
          (append_known (g.O.Write.contents l.output) held.items);
      fewer : vec_len held ≤ length l.fn.self;
      few : vec_len held ≤ max_held;
      room : max_held ≤ vec_capacity held;
      quiet : l.faults ≡ l.fn.faults;
    }

abbrev pub decreases-pieces : goal.decreases-pieces
decreases-pieces g l = vec_len l.self-inside.bytes
