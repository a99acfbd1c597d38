-- An empty table has no entries.
use Rattle.std.proofs.Common.{refl}
use Rattle.value_ops.proofs.EntryLaws.{empty_table}
use Rattle.value_ops.proofs.entries.Entries.new.Goals as goal

pub invariant_of-result : goal.invariant_of-result
invariant_of-result c = rw (c.new.ensures.items, c.new-2.ensures.items) (refl, empty_table)
