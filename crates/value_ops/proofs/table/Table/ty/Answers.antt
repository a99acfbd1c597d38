-- A table that keeps nothing is empty.
use Rattle.value_ops.proofs.EntryLaws.{empty_table}
use Rattle.value_ops.proofs.table.Table.ty.Goals as goal

pub returns-in-None-clause-entries : goal.returns-in-None-clause-entries
returns-in-None-clause-entries c = rw (← c.self.view_is, c.in-None.is) empty_table
