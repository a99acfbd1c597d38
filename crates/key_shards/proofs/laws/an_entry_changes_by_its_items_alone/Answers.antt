-- A shard of these keys follows one word before and after.
use Rattle.key_shards.proofs.Staying.{entries_stay}
use Rattle.key_shards.proofs.laws.an_entry_changes_by_its_items_alone.Goals as goal

pub returns : goal.returns
returns c = entries_stay
