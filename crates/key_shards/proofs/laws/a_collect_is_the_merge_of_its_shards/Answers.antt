-- By induction on the keys.
use Rattle.key_shards.proofs.Collected.{masked}
use Rattle.key_shards.proofs.Merged.{is_merged}
use Rattle.key_shards.proofs.OneMerge.{one_merge}
use Rattle.key_shards.proofs.Ruled.{defined_alike}
use Rattle.key_shards.proofs.laws.a_collect_is_the_merge_of_its_shards.Goals as goal

pub returns-clause-defined : goal.returns-clause-defined
returns-clause-defined c = defined_alike

pub returns-clause-merge : goal.returns-clause-merge
returns-clause-merge c = is_merged

pub returns-clause-one : goal.returns-clause-one
returns-clause-one c = one_merge

pub returns-clause-mask : goal.returns-clause-mask
returns-clause-mask c = masked
