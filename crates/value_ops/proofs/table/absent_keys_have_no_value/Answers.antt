-- Both directions are laws of the entries.
use Rattle.value_ops.proofs.EntryLaws.{absent_from_none, none_from_absent}
use Rattle.value_ops.proofs.table.absent_keys_have_no_value.Goals as goal

pub returns : goal.returns
returns c = λ key entries. (absent_from_none key entries, none_from_absent key entries)
