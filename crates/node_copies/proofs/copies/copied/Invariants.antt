use Rattle.std.proofs.Common.{◌≡◌, length, take}
use Rattle.node_copies.proofs.copies.copied.Given as goal

abbrev pub invariant-entries : goal.invariant-entries
invariant-entries l =
    (l.copy.entries ≡ take l.i l.held.entries) × (l.copy.room ≡ l.held.room)
    × (l.i-end ≡ length l.held.entries)
