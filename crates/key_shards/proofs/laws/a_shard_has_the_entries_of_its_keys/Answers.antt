-- By induction on the keys.
use Rattle.key_shards.proofs.Collected.{shard_entries}
use Rattle.key_shards.proofs.laws.a_shard_has_the_entries_of_its_keys.Goals as goal

pub returns : goal.returns
returns c = shard_entries
