use Rattle.shard_run.proofs.Sent.{items_shared}
use Rattle.shard_run.proofs.laws.a_shard_has_the_items_of_its_lines.Goals as goal

pub returns : goal.returns
returns c = items_shared
