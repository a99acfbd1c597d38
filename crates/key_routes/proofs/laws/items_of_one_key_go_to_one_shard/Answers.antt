use Rattle.key_routes.proofs.Sending.{one_home}
use Rattle.key_routes.proofs.laws.items_of_one_key_go_to_one_shard.Goals as goal

pub returns : goal.returns
returns c = one_home
