-- An empty table has no entries, whatever the room.
use Rattle.std.proofs.Common.{refl}
use Rattle.value_ops.proofs.EntryLaws.{empty_table}
use Rattle.value_ops.proofs.entries.Entries.with_capacity.Goals as goal

pub invariant_of-result : goal.invariant_of-result
invariant_of-result c =
    rw (c.in_ok-with_capacity-2.ensures.items, c.in_ok-with_capacity.ensures.items)
    (refl, empty_table)
