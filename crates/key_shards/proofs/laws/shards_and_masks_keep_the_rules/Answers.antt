-- From the rules of the collect.
use Rattle.key_shards.proofs.Ruled.{mask_clear, shard_clear, shard_defined}
use Rattle.key_shards.proofs.laws.shards_and_masks_keep_the_rules.Goals as goal

pub returns-clause-shard : goal.returns-clause-shard
returns-clause-shard c = shard_clear

pub returns-clause-mask : goal.returns-clause-mask
returns-clause-mask c = mask_clear

pub returns-clause-defined : goal.returns-clause-defined
returns-clause-defined c = shard_defined
