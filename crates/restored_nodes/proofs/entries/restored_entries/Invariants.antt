use Rattle.std.proofs.Common.{◌≡◌, length, map, take}
use Rattle.eval_snapshot.specs.Means.{held_entry}
use Rattle.restored_nodes.proofs.entries.restored_entries.Given as goal

abbrev pub invariant-entries : goal.invariant-entries
invariant-entries l =
    (l.held.entries ≡ map held_entry (take l.i l.entries)) × (l.held.room ≡ l.room)
    × (l.i-end ≡ length l.entries)
