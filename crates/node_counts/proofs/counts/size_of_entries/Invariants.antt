use Rattle.std.proofs.Common.{◌≡◌, ◌-◌, ◌^◌, length, min, take}
use Rattle.eval_nodes.specs.Counts.{sizes_of}
use Rattle.node_counts.proofs.counts.size_of_entries.Given as goal

abbrev pub invariant-entries : goal.invariant-entries
invariant-entries l =
    (l.sum ≡ min (sizes_of (take l.i l.held.entries)) (2 ^ 64 - 1))
    × (l.i-end ≡ length l.held.entries)
