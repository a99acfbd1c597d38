use Rattle.std.proofs.Common.{◌≡◌, length, map, take}
use Rattle.eval_snapshot.specs.Dumped.{kept_entry}
use Rattle.node_dumps.proofs.lists.dumped_entries.Given as goal

abbrev pub invariant-entries : goal.invariant-entries
invariant-entries l =
    (l.entries ≡ map kept_entry (take l.i l.held.entries)) × (l.i-end ≡ length l.held.entries)
